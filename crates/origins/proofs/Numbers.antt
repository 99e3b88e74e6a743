-- Which load a serial names: of all loads of the accepted activations the last ones are queued, and two loads that are less than 2 ^ 32 apart
-- have two serials.
use Prim.Native.Nat.{ℕ, ◌+◌, ◌-◌, ◌%◌, ◌≤◌, ◌<◌, ◌^◌}
use native.Mathlib.Omega.{arith}
use mathlib.Core.Path.{◌≡◌, ◌∙◌}
use Rattle.queue.specs.Contents.{after, age, oldest}
use Rattle.queue.proofs.Serials.{oldest-small, after_small}

-- a place and its serial
serial_at : (from serial i : ℕ) → from < 2 ^ 32 → serial < 2 ^ 32 → age from serial ≡ i → after from i ≡ serial
serial_at from serial i h k e = omega arith

-- the oldest of `count` that run up to the serial after `total`
oldest-after : (first total count : ℕ) → count ≤ 64 → oldest (after first total) count ≡ (first + total + (2 ^ 32 - count)) % 2 ^ 32
oldest-after first total count few = omega arith

after-oldest : (first total count i before : ℕ) → count ≤ 64 → before + count ≡ total + i
    → after first before ≡ after ((first + total + (2 ^ 32 - count)) % 2 ^ 32) i
after-oldest first total count i before few nth = omega arith

-- two numbers of one serial, less than 2 ^ 32 apart
same_number : (first a b total : ℕ) → a < total → total ≤ a + 2 ^ 32 → b < total → total ≤ b + 2 ^ 32 → after first a ≡ after first b → a ≡ b
same_number first a b total la ha lb hb e = omega arith

-- Of `total` loads `count` are queued. The one at place i, with `before` loads before it, has the serial after `before`.
pub serial_of_load : (first total next count i before serial : ℕ) → next ≡ after first total → count ≤ 64 → serial < 2 ^ 32
    → before + count ≡ total + i → age (oldest next count) serial ≡ i → after first before ≡ serial
serial_of_load first total next count i before serial is few small nth place =
    after-oldest first total count i before few nth
    ∙ rw (← oldest-after first total count few)
    (serial_at (oldest (after first total) count) serial i (oldest-small (after first total) count) small (rw is at place))

-- Where that is the serial after n, it is the nth.
pub number_of : (first n total next count i before : ℕ) → next ≡ after first total → n < total → total ≤ n + 2 ^ 32 → count ≤ 64
    → i < count → before + count ≡ total + i → age (oldest next count) (after first n) ≡ i → before ≡ n
number_of first n total next count i before is low high few inside nth place =
    same_number first before n total (omega arith) (omega arith) low high
    (serial_of_load first total next count i before (after first n) is few (after_small first n) nth place)
