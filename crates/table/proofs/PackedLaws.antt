-- Packing loses nothing: pairs and groups, and the numbers that hold them.
use Prim.Native.Nat.{ℕ, ◌+◌, ◌*◌, ◌/◌, ◌%◌, ◌<◌}
use native.Mathlib.Omega.{arith}
use mathlib.Core.Path.{◌≡◌, refl}
use mathlib.Core.List.{List, [], ◌∷◌, ◌++◌, map}
use Rattle.table.specs.declared.Pair.{Pair}
use Rattle.table.specs.declared.Span.{Span}
use Rattle.table.specs.Packed.{pair_in, packed_pair, span_in, packed_span, group_in, packed_group, SmallPair, SmallSpan}
use Rattle.table.specs.Packed.{PairsReadBack, PackedPairsReadBack, GroupsReadBack, PackedGroupsReadBack}

-- a byte below another
module _ (a b : ℕ) (small : a < 256) where
  low : (a + 256 * b) % 256 ≡ a
  low = omega arith

  high : b < 256 → (a + 256 * b) / 256 % 256 ≡ b
  high h =
      let e : (a + 256 * b) / 256 ≡ b = omega arith in
      rw e (omega arith)

both : (n : ℕ) → n < 65536 → n % 256 + 256 * (n / 256 % 256) ≡ n
both n h =
    let e : n / 256 % 256 ≡ n / 256 = omega arith in
    rw e (omega arith)

pub pairs_read_back : PairsReadBack
unfolding pair_in packed_pair
pairs_read_back p s = rw (low p.offset p.port s.offset, high p.offset p.port s.offset s.port)

pub packed_pairs_read_back : PackedPairsReadBack
unfolding pair_in packed_pair
packed_pairs_read_back n h = both n (omega arith)

-- a span's number is one of sixteen bits, below what stands above it
span_small : (s : Span) → SmallSpan s → packed_span s < 65536
span_small s h = omega (arith, h.first, h.count)

span_back : (s : Span) → SmallSpan s → span_in (packed_span s) ≡ s
span_back s h = rw (low s.first s.count h.first, high s.first s.count h.first h.count)

span_below : (a b : ℕ) → span_in (a + 65536 * b) ≡ span_in a
span_below a b =
    let e : (a + 65536 * b) % 256 ≡ a % 256 = omega arith in
    let d : (a + 65536 * b) / 256 ≡ a / 256 + 256 * b = omega arith in
    let f : (a / 256 + 256 * b) % 256 ≡ a / 256 % 256 = omega arith in
    rw (e, d, f)

above : (a b : ℕ) → a < 65536 → (a + 65536 * b) / 65536 ≡ b
above a b h = omega arith

pub groups_read_back : GroupsReadBack
unfolding group_in packed_group
groups_read_back g l s =
    let a = packed_span g.loads in
    let b = packed_span g.stores in
    let h : a < 65536 = span_small g.loads l in
    rw (above a b h, span_below a b, span_back g.loads l, span_back g.stores s)

pub packed_groups_read_back : PackedGroupsReadBack
unfolding group_in packed_group
packed_groups_read_back n h =
    let k : n / 65536 < 65536 = omega arith in
    let e : n % 256 ≡ n % 65536 % 256 = omega arith in
    let f : n / 256 % 256 ≡ n % 65536 / 256 % 256 =
    let d : n / 256 ≡ n % 65536 / 256 + 256 * (n / 65536) = quotient (n % 65536) (n / 65536) n (omega arith) in
    rw d (omega arith)
    in
    rw (both (n / 65536) k, e, f, both (n % 65536) (omega arith)) (omega arith)
  where
    quotient : (a b m : ℕ) → m ≡ a + 65536 * b → m / 256 ≡ a / 256 + 256 * b
    quotient a b m d = rw d (omega arith)

-- ---- pairs that have room
abbrev pub AllSmall : List Pair → Type 0
AllSmall [] = Unit {0}
AllSmall (p ∷ ps) = SmallPair p × AllSmall ps

pub all_read_back : (ps : List Pair) → AllSmall ps → map pair_in (map packed_pair ps) ≡ ps
all_read_back [] h = refl
all_read_back (p ∷ ps) h = rw (pairs_read_back p h.0, all_read_back ps h.1)

pub map-append : {A B : Type 0} (f : A → B) (xs ys : List A) → map f (xs ++ ys) ≡ map f xs ++ map f ys
map-append f [] ys = refl
map-append f (x ∷ xs) ys = rw (map-append f xs ys)
