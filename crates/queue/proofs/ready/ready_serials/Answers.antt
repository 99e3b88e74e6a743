use Rattle.std.proofs.Common.{◌≡◌, ◌≤◌, sym, refl, ap, ◌∙◌, arith}
use Rattle.queue.specs.declared.Queue.{Queue}
use Rattle.queue.specs.declared.Side.{Side as SideStruct}
use Rattle.queue.specs.Contents.{contents_of, oldest}
use Rattle.queue.specs.Ready.{oldest_of}
use Rattle.queue.specs.Parts.{queue_of}
use Rattle.queue.proofs.SoundLaws.{count_most}
use Rattle.queue.proofs.ReadyLaws.{gathering-ready, gathering-unready, oldest_in, in_reach, gathered}
use Rattle.queue.proofs.ready.ready_serials.Goals as goal
use Rattle.queue.proofs.ready.ready_serials.Goals.{After-side-side, then-ready_at, else-ready_at}

abbrev whole : After-side-side → Queue
whole c = queue_of c.args.frame.now c.args.load_entries.now c.args.store_entries.now

pub ready_at-requires : goal.ready_at-requires
ready_at-requires c =
    let p = (goal.at.ready_at-requires c).After-side-side in
    in_reach (whole p) c.requires.right c.requires.loads_whole c.requires.stores_whole c.args.kind c.loop-i.i
    (rw c.side-side.ensures at c.loop-i-test.true)

pub put-count-requires : goal.put-count-requires
put-count-requires c =
    let p = (goal.at.put-count-requires c).After-side-side in
    let most : c.side-side.result.count ≤ 64 = rw c.side-side.ensures (count_most (whole p) c.requires.right c.args.kind) in
    omega (arith, c.loop-i.invariant.few, c.loop-i-test.true, most)

pub loop-i-preserved : goal.loop-i-preserved
loop-i-preserved c =
    let k = rw c.side-side.ensures at c.loop-i-test.true in
    elim c.if-ready_at.branch [
      | then-ready_at w ↦ rw (w.count-is, w.numbers-is)
          (gathering-ready c.loop-i.invariant k (sym w.if-ready_at.true ∙ c.ready_at.ensures) w.put-count.ensures refl)
      | else-ready_at w ↦ rw (w.count-is, w.numbers-is) (gathering-unready c.loop-i.invariant k (sym w.if-ready_at.false ∙ c.ready_at.ensures) refl)
    ]

pub returns : goal.returns
returns c =
    let p = (goal.at.returns c).After-side-side in
    let first : c.oldest_serial-serial.result ≡ oldest_of c.args.kind (contents_of (whole p)) =
    c.oldest_serial-serial.ensures ∙ ap (λ (x : SideStruct). oldest x.next x.count) c.side-side.ensures ∙ sym (oldest_in c.args.kind (whole p)) in
    gathered c.args.kind (whole p) c.requires.right c.loop-i.invariant first refl
    (rw c.side-side.ensures at c.loop-i.auto.i-end) (rw c.side-side.ensures at c.loop-i-test.false)
