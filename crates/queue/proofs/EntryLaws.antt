-- Entries and the numbers that hold them: packing loses nothing.
use Rattle.std.proofs.Common.{◌≡◌, ℕ, zero, suc, ◌+◌, ◌*◌, ◌/◌, ◌%◌, ◌<◌, Bool, true, false, eqb, refl, ap, ◌∙◌, arith}
use mathlib.Core.Option.{none, some}
use Rattle.number.specs.Basics.{pick, is_some}
use Rattle.queue.specs.declared.Entry.{Entry as EntryStruct}
use Rattle.queue.specs.Entry.{Entry, with_address, with_word, mark_finished, entry_of, unpacked, entry_in, bit, number_of, Small, EntriesReadBack}
use Rattle.queue.specs.Entry.{PackedReadBack}
use Rattle.queue.specs.Internal.{set_address, set_word, set_finished}

-- ---- packing
pub entry-small : (n : ℕ) → Small (unpacked n)
unfolding unpacked
entry-small n = record { port = omega arith; before = omega arith; address = omega arith; word = omega arith }

bit-eqb : (b : Bool) → eqb (bit b) 1 ≡ b
bit-eqb true = refl
bit-eqb false = refl

pub bit-small : (b : Bool) → bit b < 2
bit-small true = omega arith
bit-small false = omega arith

abbrev packed : ℕ → ℕ → ℕ → ℕ → ℕ → ℕ → ℕ → ℕ
packed p a f d b x w = p % 32 + (32 * a + 64 * f + 128 * d) + 256 * b + 65536 * x + 4294967296 * w

-- the part of a number above its lowest bits
above32 : (r k : ℕ) → r < 32 → (r + 32 * k) / 32 ≡ k
above32 r k h = omega arith

above64 : (r k : ℕ) → r < 64 → (r + 64 * k) / 64 ≡ k
above64 r k h = omega arith

above128 : (r k : ℕ) → r < 128 → (r + 128 * k) / 128 ≡ k
above128 r k h = omega arith

above256 : (r k : ℕ) → r < 256 → (r + 256 * k) / 256 ≡ k
above256 r k h = omega arith

above65536 : (r k : ℕ) → r < 65536 → (r + 65536 * k) / 65536 ≡ k
above65536 r k h = omega arith

above4294967296 : (r k : ℕ) → r < 4294967296 → (r + 4294967296 * k) / 4294967296 ≡ k
above4294967296 r k h = omega arith

module _ (p a f d b x w : ℕ) where
  part5 : p < 32 → packed p a f d b x w % 32 ≡ p
  part5 h = omega arith

  mark5 : a < 2 → packed p a f d b x w / 32 % 2 ≡ a
  mark5 h =
      let k : ℕ = a + 2 * f + 4 * d + 8 * b + 2048 * x + 134217728 * w in
      let e : packed p a f d b x w ≡ p % 32 + 32 * k = omega arith in
      rw (e, above32 (p % 32) k (omega arith)) (omega arith)

  mark6 : a < 2 → f < 2 → packed p a f d b x w / 64 % 2 ≡ f
  mark6 ha hf =
      let k : ℕ = f + 2 * d + 4 * b + 1024 * x + 67108864 * w in
      let e : packed p a f d b x w ≡ p % 32 + 32 * a + 64 * k = omega arith in
      rw (e, above64 (p % 32 + 32 * a) k (omega arith)) (omega arith)

  mark7 : a < 2 → f < 2 → d < 2 → packed p a f d b x w / 128 % 2 ≡ d
  mark7 ha hf hd =
      let k : ℕ = d + 2 * b + 512 * x + 33554432 * w in
      let e : packed p a f d b x w ≡ p % 32 + 32 * a + 64 * f + 128 * k = omega arith in
      rw (e, above128 (p % 32 + 32 * a + 64 * f) k (omega arith)) (omega arith)

  part8 : p < 32 → a < 2 → f < 2 → d < 2 → b < 256 → packed p a f d b x w / 256 % 256 ≡ b
  part8 hp ha hf hd hb =
      let k : ℕ = b + 256 * x + 16777216 * w in
      let e : packed p a f d b x w ≡ p % 32 + 32 * a + 64 * f + 128 * d + 256 * k = omega arith in
      rw (e, above256 (p % 32 + 32 * a + 64 * f + 128 * d) k (omega arith)) (omega arith)

  part16 : a < 2 → f < 2 → d < 2 → b < 256 → x < 65536 → packed p a f d b x w / 65536 % 65536 ≡ x
  part16 ha hf hd hb hx =
      let k : ℕ = x + 65536 * w in
      let e : packed p a f d b x w ≡ p % 32 + 32 * a + 64 * f + 128 * d + 256 * b + 65536 * k = omega arith in
      rw (e, above65536 (p % 32 + 32 * a + 64 * f + 128 * d + 256 * b) k (omega arith)) (omega arith)

  part32 : a < 2 → f < 2 → d < 2 → b < 256 → x < 65536 → w < 4294967296 → packed p a f d b x w / 4294967296 % 4294967296 ≡ w
  part32 ha hf hd hb hx hw =
      let e : packed p a f d b x w ≡ p % 32 + 32 * a + 64 * f + 128 * d + 256 * b + 65536 * x + 4294967296 * w = omega arith in
      rw (e, above4294967296 (p % 32 + 32 * a + 64 * f + 128 * d + 256 * b + 65536 * x) w (omega arith)) (omega arith)

-- an entry whose fields have room is the one that its number holds
pub entry_number : (e : EntryStruct) → Small e → unpacked (number_of e) ≡ e
unfolding unpacked number_of
entry_number e s =
    let a : ℕ = bit e.addressed in
    let f : ℕ = bit e.filled in
    let d : ℕ = bit e.finished in
    rw (
      part5 e.port a f d e.before e.address e.word s.port,
      part8 e.port a f d e.before e.address e.word s.port (bit-small e.addressed) (bit-small e.filled) (bit-small e.finished)
          s.before,
      mark5 e.port a f d e.before e.address e.word (bit-small e.addressed),
      mark6 e.port a f d e.before e.address e.word (bit-small e.addressed) (bit-small e.filled),
      mark7 e.port a f d e.before e.address e.word (bit-small e.addressed) (bit-small e.filled) (bit-small e.finished),
      part16 e.port a f d e.before e.address e.word (bit-small e.addressed) (bit-small e.filled) (bit-small e.finished)
          s.before s.address,
      part32 e.port a f d e.before e.address e.word (bit-small e.addressed) (bit-small e.filled) (bit-small e.finished)
          s.before s.address s.word,
      bit-eqb e.addressed,
      bit-eqb e.filled,
      bit-eqb e.finished,
    )

pub entries_read_back : EntriesReadBack
entries_read_back = entry_number

-- a number is its lowest bits and what lies above them
bits-eqb : (n : ℕ) → n < 2 → bit (eqb n 1) ≡ n
bits-eqb zero h = refl
bits-eqb (suc zero) h = refl
bits-eqb (suc (suc n)) h = absurd (omega arith)

module _ (n : ℕ) where
  half64 : n / 64 ≡ n / 32 / 2
  half64 =
      let e : n ≡ n % 32 + 32 * (n / 32 % 2) + 64 * (n / 32 / 2) = omega arith in
      ap (λ (m : ℕ). m / 64) e ∙ above64 (n % 32 + 32 * (n / 32 % 2)) (n / 32 / 2) (omega arith)

  half128 : n / 128 ≡ n / 64 / 2
  half128 =
      let e : n ≡ n % 64 + 64 * (n / 64 % 2) + 128 * (n / 64 / 2) = omega arith in
      ap (λ (m : ℕ). m / 128) e ∙ above128 (n % 64 + 64 * (n / 64 % 2)) (n / 64 / 2) (omega arith)

  half256 : n / 256 ≡ n / 128 / 2
  half256 =
      let e : n ≡ n % 128 + 128 * (n / 128 % 2) + 256 * (n / 128 / 2) = omega arith in
      ap (λ (m : ℕ). m / 256) e ∙ above256 (n % 128 + 128 * (n / 128 % 2)) (n / 128 / 2) (omega arith)

  part65536 : n / 65536 ≡ n / 256 / 256
  part65536 =
      let e : n ≡ n % 256 + 256 * (n / 256 % 256) + 65536 * (n / 256 / 256) = omega arith in
      ap (λ (m : ℕ). m / 65536) e ∙ above65536 (n % 256 + 256 * (n / 256 % 256)) (n / 256 / 256) (omega arith)

  part4294967296 : n / 4294967296 ≡ n / 65536 / 65536
  part4294967296 =
      let e : n ≡ n % 65536 + 65536 * (n / 65536 % 65536) + 4294967296 * (n / 65536 / 65536) = omega arith in
      ap (λ (m : ℕ). m / 4294967296) e ∙ above4294967296 (n % 65536 + 65536 * (n / 65536 % 65536)) (n / 65536 / 65536) (omega arith)

join : (p a a₀ f f₀ d d₀ b b₀ x x₀ w n : ℕ) → n ≡ p + 32 * a → a ≡ a₀ + 2 * f → f ≡ f₀ + 2 * d → d ≡ d₀ + 2 * b
    → b ≡ b₀ + 256 * x → x ≡ x₀ + 65536 * w
    → p + (32 * a₀ + 64 * f₀ + 128 * d₀) + 256 * b₀ + 65536 * x₀ + 4294967296 * w ≡ n
join p a a₀ f f₀ d d₀ b b₀ x x₀ w n e1 e2 e3 e4 e5 e6 = omega arith

pub packed_read_back : PackedReadBack
unfolding unpacked number_of
packed_read_back n h =
    let e1 : bit (eqb (n / 32 % 2) 1) ≡ n / 32 % 2 = bits-eqb (n / 32 % 2) (omega arith) in
    let e2 : bit (eqb (n / 64 % 2) 1) ≡ n / 64 % 2 = bits-eqb (n / 64 % 2) (omega arith) in
    let e3 : bit (eqb (n / 128 % 2) 1) ≡ n / 128 % 2 = bits-eqb (n / 128 % 2) (omega arith) in
    rw (e1, e2, e3)
    (sum (n % 32) (n / 32) (n / 64) (n / 128) (n / 256) (n / 65536) (n / 4294967296) n (omega arith) (omega arith) (half64 n) (half128 n) (half256 n)
    (part65536 n) (part4294967296 n) (omega arith))
  where
    sum : (p a f d b x w n : ℕ) → p < 32 → n ≡ p + 32 * a → f ≡ a / 2 → d ≡ f / 2 → b ≡ d / 2 → x ≡ b / 256
        → w ≡ x / 65536 → w < 4294967296
        → p % 32 + (32 * (a % 2) + 64 * (f % 2) + 128 * (d % 2)) + 256 * (b % 256) + 65536 * (x % 65536) + 4294967296 * (w % 4294967296) ≡ n
    sum p a f d b x w n hp e hf hd hb hx hw small =
        let a2 : a ≡ a % 2 + 2 * f = omega arith in
        let f2 : f ≡ f % 2 + 2 * d = omega arith in
        let d2 : d ≡ d % 2 + 2 * b = omega arith in
        let b2 : b ≡ b % 256 + 256 * x = omega arith in
        let x2 : x ≡ x % 65536 + 65536 * w = omega arith in
        let w2 : w % 4294967296 ≡ w = omega arith in
        let p2 : p % 32 ≡ p = omega arith in
        rw (p2, w2) (join p a (a % 2) f (f % 2) d (d % 2) b (b % 256) x (x % 65536) w n e a2 f2 d2 b2 x2)

-- ---- an entry made anew: its record is packed again
-- `f` makes the record anew, `g` what it holds
pub anew_number : (f : EntryStruct → EntryStruct) (g : Entry → Entry) → ((s : EntryStruct) → entry_of (f s) ≡ g (entry_of s)) → (n : ℕ)
    → (Small (unpacked n) → Small (f (unpacked n))) → {x : ℕ} → x ≡ number_of (f (unpacked n)) → entry_in x ≡ g (entry_in n)
anew_number f g alike n small e =
    ap entry_in e ∙ ap entry_of (entry_number (f (unpacked n)) (small (entry-small n))) ∙ alike (unpacked n)

pub finished_number : (n : ℕ) {x : ℕ} → x ≡ number_of (set_finished (unpacked n)) → entry_in x ≡ mark_finished (entry_in n)
finished_number n =
    anew_number set_finished mark_finished (λ s. refl) n (λ k. record { port = k.port; before = k.before; address = k.address; word = k.word })

pub word_number : (w n : ℕ) → w < 4294967296 → {x : ℕ} → x ≡ number_of (set_word w (unpacked n)) → entry_in x ≡ with_word w (entry_in n)
word_number w n low =
    anew_number (set_word w) (with_word w) (λ s. refl) n (λ k. record { port = k.port; before = k.before; address = k.address; word = low })

pub address_number : (a n : ℕ) → a < 65536 → {x : ℕ} → x ≡ number_of (set_address a (unpacked n)) → entry_in x ≡ with_address a (entry_in n)
address_number a n low =
    anew_number (set_address a) (with_address a) (λ s. refl) n (λ k. record { port = k.port; before = k.before; address = low; word = k.word })

-- ---- marks
pub marked : (mark : Bool) (a : ℕ) → is_some (pick mark (some a) none) ≡ mark
marked true a = refl
marked false a = refl
