use Rattle.std.proofs.Common.{◌≡◌, ◌≤◌, ◌∙◌, ap, arith}
use lib.ListN.{length-map}
use Rattle.queue.specs.Entry.{entry_in}
use Rattle.queue.specs.Contents.{entries_held}
use Rattle.queue.specs.Internal.{entries_in}
use Rattle.queue.specs.Retire.{retiring}
use Rattle.queue.proofs.RetireLaws.{retiring_most, entries-retiring, retire-sides}
use Rattle.queue.proofs.retiring.retire.Goals as goal
use Rattle.queue.proofs.retiring.retire.Goals.{After-retiring-loads_gone, After-retiring-stores_gone}

-- how many leave each side, which are no more than it holds
loads-gone : (c : After-retiring-loads_gone) → c.retiring-loads_gone.result ≡ retiring (entries_held c.args.frame.now.loads.count c.args.load_entries.now)
loads-gone c = c.retiring-loads_gone.ensures ∙ ap retiring c.held.ensures.entries

loads-most : (c : After-retiring-loads_gone) → c.retiring-loads_gone.result ≤ c.args.frame.now.loads.count
loads-most c = omega (arith, loads-gone c, entries-retiring c.args.frame.now.loads.count c.args.load_entries.now)

stores-gone : (c : After-retiring-stores_gone) → c.retiring-stores_gone.result ≡ retiring (entries_held c.args.frame.now.stores.count c.args.store_entries.now)
stores-gone c = c.retiring-stores_gone.ensures ∙ ap retiring c.held-2.ensures.entries

stores-most : (c : After-retiring-stores_gone) → c.retiring-stores_gone.result ≤ c.args.frame.now.stores.count
stores-most c = omega (arith, stores-gone c, entries-retiring c.args.frame.now.stores.count c.args.store_entries.now)

pub overflow_cast-loads_gone : goal.overflow_cast-loads_gone
overflow_cast-loads_gone c =
    omega (arith, c.retiring-loads_gone.ensures, retiring_most (entries_in c.held.result.now), length-map c.held.result.now entry_in, c.held.ensures.few)

pub overflow_cast-stores_gone : goal.overflow_cast-stores_gone
overflow_cast-stores_gone c =
    omega (arith, c.retiring-stores_gone.ensures, retiring_most (entries_in c.held-2.result.now), length-map c.held-2.result.now entry_in, c.held-2.ensures.few)

pub shorten-requires : goal.shorten-requires
shorten-requires c = loads-most (goal.at.shorten-requires c).After-retiring-loads_gone

pub shorten-requires-2 : goal.shorten-requires-2
shorten-requires-2 c = stores-most (goal.at.shorten-requires-2 c).After-retiring-stores_gone

pub shift-requires : goal.shift-requires
shift-requires c = rw c.shorten.ensures (omega (arith, loads-most (goal.at.shift-requires c).After-retiring-loads_gone, c.requires.loads))

pub shift-requires-2 : goal.shift-requires-2
shift-requires-2 c = rw c.shorten-2.ensures (omega (arith, stores-most (goal.at.shift-requires-2 c).After-retiring-stores_gone, c.requires.stores))

pub returns-clause-retires : goal.returns-clause-retires
returns-clause-retires c =
    let l = c.shorten.ensures in
    let s = c.shorten-2.ensures in
    rw (l, s)
    (retire-sides c.args.frame.now (loads-gone (goal.at.returns-clause-retires c).After-retiring-loads_gone)
    (stores-gone (goal.at.returns-clause-retires c).After-retiring-stores_gone) (rw l at c.shift.ensures) (rw s at c.shift-2.ensures))
