-- Every queue that calls lead to from an accepted opening is sound: it never answers 40.
use Prim.Native.Nat.{ℕ}
use mathlib.Core.Path.{◌≡◌, refl}
use mathlib.Core.Bool.{true}
use mathlib.Core.List.{List}
use lib.Dec.{leb}
use lib.ListN.{length}
use borrow.Author.Tests.{le-leb}
use Rattle.number.specs.Basics.{all_of}
use Rattle.queue.specs.declared.Kind.{Kind}
use Rattle.queue.specs.declared.Kind.TheVariants.{Load, Store}
use Rattle.queue.specs.Contents.{Contents, side_of}
use Rattle.queue.specs.Sound.{depth_right, address_right, entry_right, sound}
use Rattle.queue.proofs.ContentsLaws.{opposite}
use Rattle.queue.proofs.SoundLaws.{SideSound, parts-sound}
use Rattle.queue.proofs.Lists.{and_both, all-weaken, all-weaken₂}
use Rattle.sequential.specs.Answers.{machine_after}
use Rattle.sequential.specs.Demand3.{ReachedSound}
use Rattle.sequential.proofs.Log.{LogEntry, opposed, own_in}
use Rattle.sequential.proofs.Window.{window-before, before-queued, remembered-held}
use Rattle.sequential.proofs.Invariant.{Holds, Invariant, right_entry, in_range_lem}
use Rattle.sequential.proofs.Anew.{windows_of}
use Rattle.sequential.proofs.Run.{reached}

module _ (q : Contents) (m memory : List ℕ) (log : List LogEntry) (h : Holds q m memory log) where
  entries-right : (K : Kind) → all_of (entry_right q.memory_length (length (side_of (opposite K) q).entries)) (side_of K q).entries ≡ true
  entries-right K =
      let w = windows_of h K in
      all-weaken₂ (λ e. leb e.before (length (side_of (opposite K) q).entries)) (λ e. address_right q.memory_length e.address)
      (entry_right q.memory_length (length (side_of (opposite K) q).entries)) (λ e s t. and_both s t) (side_of K q).entries
      (remembered-held K (opposite K) (opposed K) log w.ours w.theirs)
      (before-queued (window-before K (opposite K) (opposed K) w.ours) (λ e. address_right q.memory_length e.address) (λ n e. refl)
      (all-weaken (right_entry K q.memory_length) (λ e. address_right q.memory_length e.address) (in_range_lem K q.memory_length)
      (own_in K log) (h.right K)))

  side-sound : (K : Kind) → depth_right (side_of K q).depth ≡ true → SideSound q.memory_length (side_of K q) (side_of (opposite K) q)
  side-sound K depth =
      record { depth = depth; few = le-leb (length (side_of K q).entries) (side_of K q).depth (h.room K); entries = entries-right K }

  pub holds-sound : sound q ≡ true
  holds-sound = parts-sound q (record {
    words = h.limits.words_right;
    sides = elim [ Load ↦ side-sound Load h.limits.load_depth_right | Store ↦ side-sound Store h.limits.store_depth_right ];
    table = h.limits.table_right;
  })

-- The queue that a list of calls leaves is sound.
pub reached-sound : ReachedSound
reached-sound groups memory m o calls =
    let st : Invariant groups memory _ (machine_after m calls) = reached o calls in
    holds-sound (machine_after m calls).queue (machine_after m calls).memory memory st.log st.holds
