-- Lines and holds walked together: the holds are sorted by rank, lines before pins, so a walk awaits one of each.
use Rattle.std.specs.Option.{unwrap_or}
use Rattle.std.specs.Prelude.{Option, ℕ, ◌+◌, ◌*◌, ◌-◌, ◌/◌, ◌≤◌, ◌<◌, ◌≡◌, cond, List, ◌++◌, map, eqb, ltb, length, get_or, take, drop}
use Rattle.files.specs.Room.{over}
use Rattle.netlist.specs.declared.Hold.{Hold}
use Rattle.netlist.specs.Netlist.{gate_at, hold_at, holds_of, gates_of}
use Rattle.drive.specs.Questions.{rank_of}
use Rattle.simulation.specs.Run.{Rule, gate_of, holding, drivers_of, work_out, held}
use Rattle.simulation.specs.Service.{read_back, lines_before}
pub use Rattle.evaluation.specs.Inner.Ready.{Ready}
use Rattle.evaluation.specs.declared.board.Board.{Board}
use Rattle.evaluation.specs.declared.ranks.Next.{Next}
use Rattle.evaluation.specs.declared.lines.Cursor.{Cursor}

-- The rank of a site of a line: 0 the line, 1 and 2 its gate's pins.
abbrev pub site_rank : ℕ → ℕ → ℕ
site_rank line site = cond (eqb site 0) line (65536 + 2 * line + site)

-- The rank of hold i, or one past every rank where the list has ended.
abbrev pub rank_at : List ℕ → ℕ → ℕ
rank_at holds i = cond (ltb i (length holds / 3)) (rank_of (hold_at holds i)) 262144

-- The holds' ranks rise, and each is a line's or a pin's.
pub record Sorted (holds : List ℕ) : Type 0 where
  pub rising : (i j : ℕ) → i < j → j < length holds / 3 → rank_of (hold_at holds i) < rank_of (hold_at holds j)
  pub values : (i : ℕ) → i < length holds / 3 → (hold_at holds i).value ≤ 5
  pub lines : (i : ℕ) → i < length holds / 3 → (hold_at holds i).line < 65536

-- The holds before hold i are of lower rank.
abbrev pub Behind : List ℕ → ℕ → ℕ → Type 0
Behind holds rank i = (k : ℕ) → k < i → k < length holds / 3 → rank_of (hold_at holds k) < rank

-- Hold i is the first of a rank or a higher one.
pub record Ahead (holds : List ℕ) (rank i : ℕ) : Type 0 where
  pub behind : Behind holds rank i
  pub from : (k : ℕ) → i ≤ k → k < length holds / 3 → rank ≤ rank_of (hold_at holds k)

-- The next hold has the rank of its place, and is the first of a rank or a higher one.
abbrev pub IsNext : List ℕ → Next → Type 0
IsNext holds n = n.rank ≡ rank_at holds n.at

pub record Awaits (holds : List ℕ) (rank : ℕ) (n : Next) : Type 0 where
  pub is : IsNext holds n
  pub ahead : Ahead holds rank n.at

-- The value that a site of this rank is held at, if it is, and the hold after it.
pub record Looks (holds : List ℕ) (rank : ℕ) (value : Option ℕ) (next : Next) : Type 0 where
  pub is-held : (line site v : ℕ) → rank ≡ site_rank line site → line < 65536 → site ≤ 2 → unwrap_or value v ≡ held (holds_of holds) line site v
  pub awaits : Awaits holds (rank + 1) next

-- The holds that a walk awaits at a line.
pub record Walks (holds : List ℕ) (line : ℕ) (c : Cursor) : Type 0 where
  pub lines : Awaits holds line c.line
  pub pins : Awaits holds (65537 + 2 * line) c.pin

-- No pin is held of the lines from one to another.
abbrev pub PinsFree : List ℕ → ℕ → ℕ → Type 0
PinsFree holds from to = (x site v : ℕ) → 1 ≤ site → site ≤ 2 → from ≤ x → x < to → held (holds_of holds) x site v ≡ v

-- The run rule on a buffer's bytes, which a gate reads back.
abbrev pub reading : List Hold → Rule ℕ
reading holds =
    record {
      op = λ line kind a b. gate_of kind (read_back (held holds line 1 a)) (read_back (held holds line 2 b));
      shows = λ line v. held holds line 0 v;
      none = 0;
    }

-- A buffer whose lines from one to another are worked out from the bytes before them.
abbrev pub worked_over : List Hold → List ℕ → List ℕ → ℕ → ℕ → List ℕ → List ℕ
worked_over holds rails gates from to buffer =
    over (work_out (reading holds) (take (to - from) (drop (from - 2) (drivers_of rails (gates_of gates)))) (take from buffer)) buffer

-- The line of a board's first gate, the line after its last, what the gate of a line makes of its sources, and a buffer whose lines from
-- one to another are worked out.
abbrev pub first_of : Board → ℕ
first_of b = 2 + length b.rails.now

abbrev pub end_of : Board → ℕ
end_of b = first_of b + length b.gates.now / 5

abbrev pub made_by : Board → ℕ → List ℕ → ℕ
made_by b line lines =
    let m = gate_at b.gates.now (line - first_of b) in
    gate_of m.kind (read_back (get_or lines m.left 0)) (read_back (get_or lines m.right 0))

abbrev pub worked : Board → ℕ → ℕ → List ℕ → List ℕ
worked b = worked_over (holds_of b.holds.now) b.rails.now b.gates.now

-- The same with the constants set, by the run rule on the values that the bytes before them are read as.
abbrev pub stepped_over : List Hold → List ℕ → List ℕ → ℕ → ℕ → List ℕ → List ℕ
stepped_over holds rails gates from to buffer =
    let before = lines_before from buffer in
    over
    (before
    ++ drop from
    (work_out (holding holds) (take (to - from) (drop (from - 2) (drivers_of rails (gates_of gates)))) (map read_back before)))
    buffer
