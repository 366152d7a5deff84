-- `levels::halve` meets its contract. The loop's invariant: the halves of the blocks passed are listed.
use Prim.Native.Nat.{ℕ, ◌+◌, ◌*◌, ◌/◌, ◌%◌, ◌^◌, ◌<◌}
use mathlib.Core.Path.{◌≡◌}
use lib.ListN.{length, get_or}
use Rattle.canonical.proofs.levels.halve.Given as goal

abbrev pub invariant-loop-u : goal.invariant-loop-u
invariant-loop-u l =
    (length l.halves ≡ 16) × ((i : ℕ) → i < 2 * l.u → get_or l.halves i 0 ≡ get_or l.starts (i / 2) 0 + i % 2 * 2 ^ l.left)
