-- Each test that is left behind is a step of the rule; the test that fails is its refusal.
use Rattle.std.proofs.Common.{sym, refl, ◌∙◌, rules}
use native.Mathlib.Nat.{zero-sub}
use Rattle.queue.specs.Contents.{contents_of}
use Rattle.queue.specs.Open.{open_queue}
use Rattle.queue.proofs.GroupLaws.{groups-few}
use Rattle.queue.proofs.opening.open_in.Goals as goal

pub returns-in_err-check : goal.returns-in_err-check
unfolding open_queue
returns-in_err-check c = rw (← c.in_err-check.ensures) (search rules)

pub returns-then-not-depth_right : goal.returns-then-not-depth_right
unfolding open_queue
returns-then-not-depth_right c = rw (← c.in_ok-check.ensures, sym c.depth_right.ensures ∙ c.if-not-depth_right.true)

pub returns-then-not-depth_right-2 : goal.returns-then-not-depth_right-2
unfolding open_queue
returns-then-not-depth_right-2 c =
    rw (← c.in_ok-check.ensures, sym c.depth_right.ensures ∙ c.if-not-depth_right.false, sym c.depth_right-2.ensures ∙ c.if-not-depth_right-2.true)

pub returns-then-not-memory_right : goal.returns-then-not-memory_right
unfolding open_queue
returns-then-not-memory_right c =
    rw (
      ← c.in_ok-check.ensures,
      sym c.depth_right.ensures ∙ c.if-not-depth_right.false,
      sym c.depth_right-2.ensures ∙ c.if-not-depth_right-2.false,
      sym c.memory_right.ensures ∙ c.if-not-memory_right.true,
    )

pub groups_fit-requires : goal.groups_fit-requires
groups_fit-requires c = groups-few _ (sym c.in_ok-check.ensures)

pub returns-then-not-groups_fit : goal.returns-then-not-groups_fit
unfolding open_queue
returns-then-not-groups_fit c =
    rw (
      ← c.in_ok-check.ensures,
      sym c.depth_right.ensures ∙ c.if-not-depth_right.false,
      sym c.depth_right-2.ensures ∙ c.if-not-depth_right-2.false,
      sym c.memory_right.ensures ∙ c.if-not-memory_right.false,
      sym c.groups_fit.ensures ∙ c.if-not-groups_fit.true,
    )

pub returns : goal.returns
unfolding open_queue contents_of
returns c =
    rw (
      ← c.in_ok-check.ensures,
      sym c.depth_right.ensures ∙ c.if-not-depth_right.false,
      sym c.depth_right-2.ensures ∙ c.if-not-depth_right-2.false,
      sym c.memory_right.ensures ∙ c.if-not-memory_right.false,
      sym c.groups_fit.ensures ∙ c.if-not-groups_fit.false,
      c.fresh_frame.ensures,
    ) (refl, λ l c. simp zero-sub)
