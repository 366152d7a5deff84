-- The three demands and what was promised since, on the definitions that the services' contracts cite.
--
-- The services return and write just what these definitions say, for every byte string (the contracts of crates/pilgodur/src/lib.rt):
-- check `checked_of`, build `building_of`, build with lamp `lamp_building_of`, read-off `reading_of`, run `run_of`, step `step_of`, probe
-- `probe_of`, sheet `sheeting_of`, from-drawing `from_drawing_of`, from-rules `from_rules_of`. That each call is answered, and that nothing else
-- is written, is what the proof of every function's contract says.
use Rattle.std.specs.Prelude.{ℕ, suc, ◌≡◌, List}
use Rattle.fields.specs.Promises.{FileIsRow, RowIsRead}
use Rattle.twins.specs.Promises.{FirstTwins, NoTwins, PairsCounted, AllPairs}
use Rattle.table.specs.Promises.{TableWithoutNotes}
use Rattle.table.specs.Table.{reading_of}
use Rattle.wiring.specs.Promises.{NetlistWithoutNotes}
use Rattle.simulation.specs.Service.{run_of, step_of}
use Rattle.steps.specs.Promises.{StepsMakeRun, OthersNoEffect, RunIsOneStep}
use Rattle.sheet.specs.Service.{sheeting_of}
use Rattle.sheet.specs.Promises.{SheetDetermines, SheetLength}
use Rattle.truths.specs.Service.{from_drawing_of}
use Rattle.truths.specs.Promises.{TableOfDrawing, OneTable, SeventeenIfWide, TableGivenBack}
use Rattle.coverage.specs.Service.{from_rules_of}
use Rattle.coverage.specs.Promises.{TableOfRules, NineteenIfShared, TwentyIfUnruled, SeventeenIfWideRules, OneTableOfRules, OrderOfRules}
use Rattle.synthesis.specs.Service.{checked_of, building_of, lamp_building_of}
use Rattle.rules.specs.Promises.{WithinFormulas, BuiltFilesPass, RightCode, DifferentNetlists}
use Rattle.answers.specs.Answers.{probe_of}
use Rattle.answers.specs.Promises.{Smallest, ProbeWrites, HiddenIfUnseen, LinesSeen, FifteenForLines}
use Rattle.answers.specs.Notes.{SameAnswers}
use Rattle.faults.specs.Promises.{NoWrongCode, RunWrites, NoUnseenLine}
use Rattle.faults.specs.Spare.{GatesRead, SpareContacts, UnreadUnseen}
use Rattle.pins.specs.Promises.{LowPinsSeen, HiddenPins}
use Rattle.lamp.specs.Promises.{PlainFirst, LampFormulas, LampFilesPass, DifferentLampNetlists}
use Rattle.lamp.specs.Promises.{LampRightCode, LampCode, LampNoWrongCode, LampShowsStuckLine}

-- Demand 1. The answer to every call is the full result or one numbered refusal; with a refusal every other result is zero, and it
-- changes no byte that was lent.
pub record Refusals : Type 0 where
  pub check : (table : List ℕ) (k : ℕ) → (checked_of table).refusal ≡ suc k →
      ((checked_of table).contacts ≡ 0) × ((checked_of table).outputs ≡ 0) × ((checked_of table).gates ≡ 0) × ((checked_of table).depth ≡ 0)
  pub build : (table buffer : List ℕ) (k : ℕ) → (building_of table buffer).refusal ≡ suc k →
      ((building_of table buffer).length ≡ 0) × ((building_of table buffer).buffer ≡ buffer)
  pub build_with_lamp : (table buffer : List ℕ) (k : ℕ) → (lamp_building_of table buffer).refusal ≡ suc k →
      ((lamp_building_of table buffer).length ≡ 0) × ((lamp_building_of table buffer).buffer ≡ buffer)
  pub read_off : (table : List ℕ) (a k : ℕ) → (reading_of table a).refusal ≡ suc k → (reading_of table a).word ≡ 0
  pub run : (netlist rails holds lines pairs : List ℕ) (k : ℕ) → (run_of netlist rails holds lines pairs).refusal ≡ suc k →
      ((run_of netlist rails holds lines pairs).lines ≡ lines) × ((run_of netlist rails holds lines pairs).pairs ≡ pairs)
  pub step : (netlist rails holds : List ℕ) (place count : ℕ) (lines pairs : List ℕ) (k : ℕ) →
      let s = step_of netlist rails holds place count lines pairs in
      s.refusal ≡ suc k → (s.place ≡ 0) × (s.lines ≡ lines) × (s.pairs ≡ pairs)
  pub probe : (table hold buffer : List ℕ) (k : ℕ) → (probe_of table hold buffer).answer.refusal ≡ suc k →
      ((probe_of table hold buffer).answer.input ≡ 0) × ((probe_of table hold buffer).answer.output ≡ 0)
      × ((probe_of table hold buffer).answer.way ≡ 0) × ((probe_of table hold buffer).buffer ≡ buffer)
  pub sheet : (netlist buffer : List ℕ) (k : ℕ) → (sheeting_of netlist buffer).refusal ≡ suc k →
      ((sheeting_of netlist buffer).length ≡ 0) × ((sheeting_of netlist buffer).buffer ≡ buffer)
  pub from_drawing : (drawing buffer : List ℕ) (k : ℕ) → (from_drawing_of drawing buffer).refusal ≡ suc k →
      ((from_drawing_of drawing buffer).length ≡ 0) × ((from_drawing_of drawing buffer).buffer ≡ buffer)
  pub from_rules : (rules buffer : List ℕ) (k : ℕ) → (from_rules_of rules buffer).refusal ≡ suc k →
      ((from_rules_of rules buffer).length ≡ 0) × ((from_rules_of rules buffer).buffer ≡ buffer)

-- Demand 2. The netlist of an accepted table is the one that the rules give: `building_of` and `checked_of` speak of `board_of`. It is
-- within the formulas for gates and depth; each pair shows the table's value and its opposite; two accepted tables that
-- differ without their notes have different netlists.
pub record Netlists : Type 0 where
  pub within : WithinFormulas
  pub pass : BuiltFilesPass
  pub right : RightCode
  pub different : DifferentNetlists

-- Demand 3. Nobody makes a permit pair show the wrong code by lines and pins held all one way; nobody who holds just one line that some
-- gate or output reads stays unseen at every code input; the probe of a line or pin finds the smallest input that betrays it, or that it
-- is hidden.
pub record StuckLines : Type 0 where
  pub no_wrong_code : NoWrongCode
  pub run_writes : RunWrites
  pub no_unseen_line : NoUnseenLine
  pub smallest : Smallest
  pub probe_writes : ProbeWrites

-- Stuck pins. A line or pin is found hidden exactly if no code input betrays it, which a line never is; 15 is given for lines only. A pin
-- held at 0 is never hidden; only the first pin of an AND, held at 1, can be.
pub record StuckPins : Type 0 where
  pub hidden : HiddenIfUnseen
  pub lines_seen : LinesSeen
  pub fifteen : FifteenForLines
  pub low_pins_seen : LowPinsSeen
  pub hidden_pins : HiddenPins

-- Steps. Accepted ones that start at line 2 and hand the place and the line buffer on end as one run with just the holds that counted; a
-- hold that does not count has no effect; a run is one step.
pub record RunsInSteps : Type 0 where
  pub make_run : StepsMakeRun
  pub others : OthersNoEffect
  pub one_step : RunIsOneStep

-- Spare contacts. Every gate of a board is read; both rails of a contact are, or neither, and neither exactly if no output's value
-- depends on the contact; a line that nothing reads stays unseen at every code input.
pub record SpareLines : Type 0 where
  pub gates_read : GatesRead
  pub contacts : SpareContacts
  pub unseen : UnreadUnseen

-- The gate sheet. It determines the netlist, without its notes, once the count of contacts is given; its length by its rows, and the
-- length that is enough for each.
pub record Sheets : Type 0 where
  pub determines : SheetDetermines
  pub length : SheetLength

-- Drawings. The result is an accepted table with the drawing's contacts, outputs and words; drawings of the same functions get one table;
-- 17 is given exactly if a level would have more than eight functions; the drawing of an accepted table gives it back, without its
-- notes.
pub record Drawings : Type 0 where
  pub table : TableOfDrawing
  pub one : OneTable
  pub seventeen : SeventeenIfWide
  pub back : TableGivenBack

-- Rule sheets. The result is an accepted table; every input fits just one rule, and the table gives that rule's word there. 19 is given
-- exactly if two rules share an input, 20 exactly if none do and some input fits none, 17 as for drawings. Sheets of the same words get
-- one table, and the order of the rules does not matter.
pub record RuleSheets : Type 0 where
  pub table : TableOfRules
  pub nineteen : NineteenIfShared
  pub twenty : TwentyIfUnruled
  pub seventeen : SeventeenIfWideRules
  pub one : OneTableOfRules
  pub order : OrderOfRules

-- Question 6. The search hands back the first pair of alike nodes, by level, then by the later node, then by the earlier; none exactly
-- if no level has two; so many pairs are compared as there are up to that one, or all, which are w (w - 1) / 2 in a level of w nodes.
pub record AlikeNodes : Type 0 where
  pub first : FirstTwins
  pub none : NoTwins
  pub counted : PairsCounted
  pub all : AllPairs

-- The lamp. The netlist of an accepted table with its lamp begins with the one without, is within the formulas, passes questions 11 and
-- 12 and differs from table to table; each permit pair shows the table's value and its opposite. With no added line and no pin of an
-- added gate held the lamp is a code exactly if every permit pair is; nobody makes it or a permit pair show another code by lines and pins
-- held all one way; just one line held of the plain board, if it is read there, shows at a permit pair and at the lamp.
pub record Lamps : Type 0 where
  pub plain_first : PlainFirst
  pub within : LampFormulas
  pub pass : LampFilesPass
  pub different : DifferentLampNetlists
  pub right : LampRightCode
  pub code : LampCode
  pub no_wrong_code : LampNoWrongCode
  pub stuck_line : LampShowsStuckLine

-- Notes: fields with tags of 128 to 255. A whole file is the row of all its fields, and any row of fields is whole; all but the notes
-- are read. A whole file and that file without its notes get the same answers. The tables and netlists that are written have no notes.
pub record Notes : Type 0 where
  pub row : FileIsRow
  pub read : RowIsRead
  pub answers : SameAnswers
  pub tables : TableWithoutNotes
  pub netlists : NetlistWithoutNotes

pub record Demands : Type 0 where
  pub first : Refusals
  pub second : Netlists
  pub third : StuckLines
  pub pins : StuckPins
  pub steps : RunsInSteps
  pub spare : SpareLines
  pub sheets : Sheets
  pub drawings : Drawings
  pub rules : RuleSheets
  pub twins : AlikeNodes
  pub lamps : Lamps
  pub notes : Notes
