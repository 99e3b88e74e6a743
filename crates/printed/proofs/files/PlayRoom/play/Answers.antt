use mathlib.Core.Path.{◌≡◌, refl}
use native.Mathlib.Omega.{arith}
use lib.ListN.{length}
use borrow.Author.Rules.{rules}
use Rattle.printed.specs.Files.{files}
use Rattle.printed.specs.Played.{lent_by}
use Rattle.printed.proofs.FilesLaws.{enough, room-told}
use Rattle.printed.proofs.files.PlayRoom.play.Goals as goal

pub returns : goal.returns
returns c =
    let s = c.args.self.now in
    let m : length s.memory ≡ 4096 = search rules in
    let a : length s.answers ≡ 16384 = search rules in
    let g : length s.given ≡ 16384 = search rules in
    let w : length s.values ≡ 16384 = search rules in
    room-told s.memory (lent_by s) (files c.args.table.now c.args.trace.now)
    (enough s.memory (lent_by s) (omega (arith, m)) (omega (arith, a)) (omega (arith, g)) (omega (arith, w))) refl c.play_files.ensures
