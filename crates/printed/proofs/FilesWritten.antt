-- Files that are played are what the writer gives for their run; the statement is specs/Written.antt.
use Prim.Native.Nat.{ℕ}
use mathlib.Core.Path.{◌≡◌, refl, sym, ap, ◌∙◌}
use mathlib.Core.Bool.{Bool, true, false}
use mathlib.Core.List.{List}
use native.Mathlib.Omega.{arith}
use lib.Dec.{ltb}
use lib.ListN.{length}
use Rattle.number.specs.Basics.{pick}
use Rattle.number.specs.Refusal.{file_too_long}
use Rattle.number.specs.Reply.{Reply, refuse, accept}
use Rattle.table.specs.Group.{GroupPairs}
use Rattle.table.specs.TableBytes.{read_table, table_bytes}
use Rattle.table.proofs.RoundTrip.{tables_are_written}
use Rattle.replay.specs.Replay.{Start, prepare}
use Rattle.replay.proofs.Traces.{runs_are_written}
use Rattle.printed.specs.Files.{most_bytes, table_fault, trace_fault, run, start_files, trace_files, groups_files, files}
use Rattle.printed.specs.Written.{FilesAreWritten}

trace-run : (gs : List GroupPairs) (trace : List ℕ) {s : Start} → trace_files gs trace ≡ run s → prepare gs trace ≡ accept s
unfolding trace_files
trace-run gs trace {s} e = go (ltb most_bytes (length trace)) (prepare gs trace) e
  where
    go : (t : Bool) (r : Reply Start) → pick t (trace_fault file_too_long) (start_files r) ≡ run s → r ≡ accept s
    go true r f = let z : ◌≡◌ {A = ℕ} 0 1 = cc in absurd (omega arith)
    go false (refuse n) f = let z : ◌≡◌ {A = ℕ} 0 1 = cc in absurd (omega arith)
    go false (accept x) f = cc

files-run : (table trace : List ℕ) {s : Start} → files table trace ≡ run s
    → (gs : List GroupPairs) × (read_table table ≡ accept gs) × (prepare gs trace ≡ accept s)
unfolding files
files-run table trace {s} e = go (ltb most_bytes (length table)) (read_table table) e
  where
    go : (t : Bool) (r : Reply (List GroupPairs)) → pick t (table_fault file_too_long) (groups_files trace r) ≡ run s
        → (gs : List GroupPairs) × (r ≡ accept gs) × (prepare gs trace ≡ accept s)
    go true r f = let z : ◌≡◌ {A = ℕ} 0 1 = cc in absurd (omega arith)
    go false (refuse n) f = let z : ◌≡◌ {A = ℕ} 0 1 = cc in absurd (omega arith)
    go false (accept gs) f = (gs, refl, trace-run gs trace f)

pub files_are_written : FilesAreWritten
files_are_written table trace s a b e =
    let (gs, read, prepared) = files-run table trace e in
    let (same, trace-is) = runs_are_written gs trace s b prepared in
    (((tables_are_written table gs a).0 read).1 ∙ ap table_bytes (sym same), trace-is)
