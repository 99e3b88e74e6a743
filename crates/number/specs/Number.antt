-- Numbers. Document 01, "Bytes and tables": "A number is 32 bits without sign, in groups of seven bits, lowest group first;
-- bit 7 of a byte means that another follows. .. the writer uses the fewest bytes." S-4 of document 02: "A number of more than one
-- byte whose last byte is 00 is refused, in tables and traces."
use Rattle.std.specs.Prelude.{ℕ, zero, suc, ◌+◌, ◌-◌, ◌*◌, ◌/◌, ◌%◌, ◌≤◌, ◌<◌, ◌^◌, max, ◌≡◌, Bool, true, not, ◌&&◌, Result, Ok, Err, List, [], ◌∷◌, ◌++◌, ◌↔◌, leb, ltb, eqb, length, take, drop}
use Rattle.std.specs.Int.Count.{count_leading_zeros}
use Rattle.number.specs.declared.refusal.Refusal.{Refusal}
use Rattle.number.specs.Basics.{pick, splice, all_of}
use Rattle.number.specs.Reply.{Reply, refuse, accept, need, reply}
use Rattle.number.specs.Refusal.{ended, too_large, padded_number, too_short, refusal_number}

-- what was read, and the bytes after it
pub data Got (A : Type 0) : Type 0 where
  got : A → List ℕ → Got A

-- what follows with what was read, or the same refusal
abbrev pub then_read : {A B : Type 0} → Reply (Got A) → (A → List ℕ → Reply B) → Reply B
then_read (accept (got a s)) rest = rest a s
then_read (refuse n) rest = refuse n

-- an element before those that reading goes on to give
abbrev pub before : {A : Type 0} → A → Reply (Got (List A)) → Reply (Got (List A))
before a r = then_read r λ l s. accept (got (a ∷ l) s)

-- a group of seven bits below a number of higher groups
abbrev pub above : ℕ → Reply (Got ℕ) → Reply (Got ℕ)
above low r = then_read r λ n s. accept (got (low + 128 * n) s)

-- A number of one byte and up to `more` bytes after it, padded or not; of the most bytes that there may be, the last is at most `top`.
unfoldable pub number_up_to : ℕ → ℕ → List ℕ → Reply (Got ℕ)
number_up_to more top [] = refuse ended
number_up_to zero top (b ∷ s) = need (leb b top) too_large (accept (got b s))
number_up_to (suc more) top (b ∷ s) = pick (ltb b 128) (accept (got b s)) (above (b - 128) (number_up_to more top s))

-- the place of s at which its last part, `rest`, begins; the bytes before it
abbrev pub place_of : List ℕ → List ℕ → ℕ
place_of s rest = length s - length rest

abbrev pub bytes_before : List ℕ → List ℕ → List ℕ
bytes_before s rest = take (place_of s rest) s

-- the last of some bytes; 0 of none
abbrev pub last_of : List ℕ → ℕ
last_of [] = 0
last_of (b ∷ []) = b
last_of (b ∷ c ∷ cs) = last_of (c ∷ cs)

-- "more than one byte whose last byte is 00": so many bytes, and the last of them
abbrev pub padded_by : ℕ → ℕ → Bool
padded_by count last = ltb 1 count && eqb last 0

abbrev pub padded : List ℕ → Bool
padded bytes = padded_by (length bytes) (last_of bytes)

-- "Reading a number: 1 the bytes end inside it or before it; 2 a fifth byte above 0F." S-4: "42: padded number, checked after 1
-- and 2 of that number."
unfoldable pub read_number : List ℕ → Reply (Got ℕ)
read_number s =
    then_read (number_up_to 4 15 s) λ n rest.
    need (not (padded (bytes_before s rest))) padded_number
    (accept (got n rest))

-- what was read, and the place after it
pub data Reading (A : Type 0) : Type 0 where
  reading : A → ℕ → Reading A

-- the reply of a call that reads in s
abbrev pub read_in : {A : Type 0} → List ℕ → Reply (Got A) → Reply (Reading A)
read_in s r = then_read r λ a rest. accept (reading a (place_of s rest))

-- what a call that reads replies, by the number of its refusal; and a call that reads a number
abbrev pub reading_reply : {A : Type 0} → Result (A × ℕ) Refusal → Reply (Reading A)
reading_reply (Ok (a, next)) = accept (reading a next)
reading_reply (Err e) = refuse (refusal_number e)

abbrev pub number_reply : Result (ℕ × ℕ) Refusal → Reply (Reading ℕ)
number_reply = reading_reply

-- "Significant bits are 32 less the leading zeros"; of a number of another width, that width less them.
abbrev pub significant_bits_in : ℕ → ℕ → ℕ
significant_bits_in width n = width - count_leading_zeros width n

abbrev pub significant_bits : ℕ → ℕ
significant_bits = significant_bits_in 32

-- S-5, of the byte count: "significant bits plus 6, divided by 7 and rounded down, at least 1."
abbrev pub byte_count : ℕ → ℕ
byte_count bits = max 1 ((bits + 6) / 7)

-- The bytes that the writer uses: one, and up to `more` after it.
unfoldable pub bytes_up_to : ℕ → ℕ → List ℕ
bytes_up_to zero n = n ∷ []
bytes_up_to (suc more) n = pick (ltb n 128) (n ∷ []) ((128 + n % 128) ∷ bytes_up_to more (n / 128))

abbrev pub number_bytes : ℕ → List ℕ
number_bytes = bytes_up_to 4

-- the bytes of several numbers, one after the other
abbrev pub bytes_of : List ℕ → List ℕ
bytes_of [] = []
bytes_of (n ∷ ns) = number_bytes n ++ bytes_of ns

-- what a writer replies: how many bytes were written
abbrev pub written_reply : Result ℕ Refusal → Reply ℕ
written_reply = reply

-- what a writer answers, and the buffer that it leaves
pub record Wrote : Type 0 where
  pub answer : Reply ℕ
  pub buffer : List ℕ

-- a writer's call: its answer, and the buffer as it is left
abbrev pub HasWritten : Wrote → Result ℕ Refusal → List ℕ → Type 0
HasWritten w r left = (written_reply r ≡ w.answer) × (left ≡ w.buffer)

-- nothing is written
abbrev pub unwritten : ℕ → List ℕ → Wrote
unwritten k buffer = record { answer = refuse k; buffer = buffer }

-- "10 the buffer is too short", and then nothing is written; else the bytes stand at the buffer's front, and those beyond
-- keep their contents.
unfoldable pub wrote : List ℕ → List ℕ → Wrote
wrote bytes buffer =
    pick (leb (length bytes) (length buffer))
    (record { answer = accept (length bytes); buffer = bytes ++ drop (length bytes) buffer })
    (unwritten too_short buffer)

-- the same after a check: its refusal comes first, and then nothing is written
abbrev pub wrote_if : Reply (Unit {0}) → List ℕ → List ℕ → Wrote
wrote_if (refuse k) bytes buffer = unwritten k buffer
wrote_if (accept right) bytes buffer = wrote bytes buffer

-- bytes put at a place of a buffer: where they end, and the buffer as it is left
pub record Puts (buffer : List ℕ) (at : ℕ) (bytes : List ℕ) (r : ℕ) (left : List ℕ) : Type 0 where
  pub ends : r ≡ at + length bytes
  pub is : left ≡ splice buffer at bytes

-- the same where they fit; else nothing is put, and the answer is the place itself
pub record PutIfFits (buffer : List ℕ) (at : ℕ) (bytes : List ℕ) (r : ℕ) (left : List ℕ) : Type 0 where
  pub ends : r ≡ pick (leb (at + length bytes) (length buffer)) (at + length bytes) at
  pub is : left ≡ pick (leb (at + length bytes) (length buffer)) (splice buffer at bytes) buffer

-- ---- what reading and writing promise together; the proofs are proofs/RoundTrip.antt

-- every number is one of 32 bits
pub data Fit : List ℕ → Type 0 where
  fit_none : Fit []
  fit_one : {n : ℕ} {ns : List ℕ} → n < 2 ^ 32 → Fit ns → Fit (n ∷ ns)

-- Every number of a list is a byte, as those of a file are.
abbrev pub is_byte : ℕ → Bool
is_byte b = ltb b 256

abbrev pub AreBytes : List ℕ → Type 0
AreBytes s = all_of is_byte s ≡ true

-- What is written is bytes.
abbrev pub WrittenAreBytes : Type 0
WrittenAreBytes = (ns : List ℕ) → Fit ns → AreBytes (bytes_of ns)

-- It is read back, whatever follows it.
abbrev pub NumbersReadBack : Type 0
NumbersReadBack = (n : ℕ) → n < 2 ^ 32 → (rest : List ℕ) → read_number (number_bytes n ++ rest) ≡ accept (got n rest)

-- S-4: what is read was written so: the reader accepts the writer's bytes and no others.
abbrev pub NumbersAreWritten : Type 0
NumbersAreWritten =
    (s rest : List ℕ) (n : ℕ) → AreBytes s →
    (read_number s ≡ accept (got n rest)) ↔ ((n < 2 ^ 32) × (s ≡ number_bytes n ++ rest))

-- 42 is what a number gets that passes 1 and 2 and that the writer would have written otherwise, and nothing else gets it.
abbrev pub PaddingIsRefused : Type 0
PaddingIsRefused =
    (s : List ℕ) → AreBytes s →
    (read_number s ≡ refuse padded_number)
    ↔ ((n : ℕ) × (rest : List ℕ) × (number_up_to 4 15 s ≡ accept (got n rest)) × (s ≡ number_bytes n ++ rest → ⊥))

-- ---- how long numbers are; the proofs are proofs/Lengths.antt, that of `FewestBytes` proofs/RoundTrip.antt

-- Significant bits are the fewest that hold a number: for numbers of any width, and so for those of 32 bits.
abbrev pub FewestBits : ℕ → (ℕ → ℕ) → Type 0
FewestBits width bits = (n k : ℕ) → n < 2 ^ width → (bits n ≤ k) ↔ (n < 2 ^ k)

abbrev pub BitsAreFewest : Type 0
BitsAreFewest = ((width : ℕ) → FewestBits width (significant_bits_in width)) × FewestBits 32 significant_bits

-- What is written is as long as the byte count of its significant bits: for numbers of any width, where the most bytes that there may
-- be hold them, seven bits in each; and so for those of 32 bits, in up to 5.
abbrev pub NumberLengths : Type 0
NumberLengths =
    (width more n : ℕ) → n < 2 ^ width → n < 128 ^ (1 + more) → length (bytes_up_to more n) ≡ byte_count (significant_bits_in width n)

abbrev pub NumberLength : Type 0
NumberLength = (n : ℕ) → n < 2 ^ 32 → length (number_bytes n) ≡ byte_count (significant_bits n)

-- The byte count is the fewest that will do: k bytes are enough just where k is at least 1 and the number is below 128 ^ k.
abbrev pub CountsAreFewest : Type 0
CountsAreFewest = (width n k : ℕ) → n < 2 ^ width → (byte_count (significant_bits_in width n) ≤ k) ↔ ((0 < k) × (n < 128 ^ k))

-- No bytes that stand for a number, padded or not, are fewer than those that are written, whatever `more` and `top` are; for 32 bits
-- they are 4 and 0F.
abbrev pub FewestBytes : Type 0
FewestBytes =
    (more top n : ℕ) (s rest : List ℕ) → AreBytes s → number_up_to more top s ≡ accept (got n rest)
    → length (bytes_up_to more n) + length rest ≤ length s
