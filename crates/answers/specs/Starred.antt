-- The worked boards that are proved, as a list of cases, each with what the service answers.
use Rattle.std.specs.Prelude.{ℕ, ◌≡◌, length, replicate}
use Prim.Native.String.{String}
use mathlib.Core.List.{List, [], ◌∷◌, ◌++◌, flat_map}
use Rattle.simulation.specs.Service.{run_of, step_of}
use Rattle.sheet.specs.Sheet.{ascii}
use Rattle.sheet.specs.Service.{sheeting_of}
use Rattle.truths.specs.Service.{from_drawing_of}
use Rattle.coverage.specs.Service.{from_rules_of}
use Rattle.synthesis.specs.Service.{checked_of, building_of, lamp_building_of}
use Rattle.answers.specs.Answers.{probe_of}

-- What a service answers: check's numbers; the file that build, or build with lamp, writes to a buffer of its length; the pairs that a
-- run of a netlist writes to a buffer of their length, or the run's refusal; a step's place out, lines and pairs, from line values and a
-- pairs buffer of nines, or its refusal with a pairs buffer of this length; probe's numbers, also with what it leaves in a buffer of this
-- length; the lines of the sheet of a netlist, written to a buffer of its length; the table of a drawing, written to a buffer of its
-- length, or the refusal and no table; of a rule sheet likewise.
pub data Case : Type 0 where
  checks : (table : List ℕ) (refusal contacts outputs gates depth : ℕ) → Case
  builds : (table : List ℕ) (size : ℕ) (file : List ℕ) → Case
  lights : (table : List ℕ) (size : ℕ) (file : List ℕ) → Case
  runs : (netlist rails holds pairs : List ℕ) → Case
  refuses : (netlist rails holds : List ℕ) (refusal : ℕ) → Case
  steps : (netlist rails holds : List ℕ) (place count : ℕ) (lines : List ℕ) (out : ℕ) (left pairs : List ℕ) → Case
  halts : (netlist rails holds : List ℕ) (place count : ℕ) (lines : List ℕ) (room refusal : ℕ) → Case
  probes : (table hold : List ℕ) (refusal input output way : ℕ) → Case
  leaves : (table hold : List ℕ) (refusal input output way : ℕ) (buffer : List ℕ) → Case
  sheets : (netlist : List ℕ) (lines : List String) → Case
  draws : (drawing : List ℕ) (refusal : ℕ) (table : List ℕ) → Case
  rules : (sheet : List ℕ) (refusal : ℕ) (table : List ℕ) → Case

-- Buffers that are always long enough here.
abbrev room : List ℕ
room = replicate 100 0

abbrev pub Answered : Case → Type 0
Answered (checks table refusal contacts outputs gates depth) =
    checked_of table ≡ record { refusal = refusal; contacts = contacts; outputs = outputs; gates = gates; depth = depth }
Answered (builds table size file) =
    let b = building_of table (replicate size 0) in (b.refusal ≡ 0) × (b.length ≡ size) × (b.buffer ≡ file)
Answered (lights table size file) =
    let b = lamp_building_of table (replicate size 0) in (b.refusal ≡ 0) × (b.length ≡ size) × (b.buffer ≡ file)
Answered (runs netlist rails holds pairs) =
    let r = run_of netlist rails holds (replicate 17 0) (replicate (length pairs) 0) in (r.refusal ≡ 0) × (r.pairs ≡ pairs)
Answered (refuses netlist rails holds refusal) = (run_of netlist rails holds (replicate 17 0) room).refusal ≡ refusal
Answered (steps netlist rails holds place count lines out left pairs) =
    step_of netlist rails holds place count lines (replicate (length pairs) 9) ≡ record { refusal = 0; place = out; lines = left; pairs = pairs }
Answered (halts netlist rails holds place count lines size refusal) =
    step_of netlist rails holds place count lines (replicate size 9)
    ≡ record { refusal = refusal; place = 0; lines = lines; pairs = replicate size 9 }
Answered (probes table hold refusal input output way) =
    (probe_of table hold room).answer ≡ record { refusal = refusal; input = input; output = output; way = way }
Answered (leaves table hold refusal input output way buffer) =
    let p = probe_of table hold (replicate (length buffer) 0) in
    (p.answer ≡ record { refusal = refusal; input = input; output = output; way = way }) × (p.buffer ≡ buffer)
Answered (sheets netlist lines) =
    let text = flat_map (λ (line : String). ascii line ++ ascii "\n") lines in
    let s = sheeting_of netlist (replicate (length text) 0) in (s.refusal ≡ 0) × (s.length ≡ length text) × (s.buffer ≡ text)
Answered (draws drawing refusal table) =
    let d = from_drawing_of drawing (replicate (length table) 0) in (d.refusal ≡ refusal) × (d.length ≡ length table) × (d.buffer ≡ table)
Answered (rules sheet refusal table) =
    let r = from_rules_of sheet (replicate (length table) 0) in (r.refusal ≡ refusal) × (r.length ≡ length table) × (r.buffer ≡ table)

abbrev pub AllHold : List Case → Type 0
AllHold [] = Unit
AllHold (c ∷ cs) = Answered c × AllHold cs

-- The selector: the permit is contact 2 while contact 1 is open, else contact 0.
abbrev pub selector : List ℕ
selector =
    1 ∷ 0 ∷ 1 ∷ 3 ∷ 2 ∷ 0 ∷ 1 ∷ 0 ∷ 3 ∷ 0 ∷ 2 ∷ 0 ∷ 1 ∷ 3 ∷ 0 ∷ 4 ∷ 0 ∷ 1 ∷ 0 ∷ 2 ∷ 3 ∷ 0 ∷ 6 ∷ 0 ∷ 1 ∷ 0 ∷ 0 ∷ 1 ∷ 1 ∷ []

-- AND 3 5; AND 2 5; OR 8 9; AND 3 4; AND 2 4; AND 10 7; OR 13 11; AND 10 6; OR 15 12. True line 16, false line 14.
abbrev pub selector_file : List ℕ
selector_file =
    1 ∷ 0 ∷ 1 ∷ 3 ∷ 4 ∷ 0 ∷ 45
    ∷ 0 ∷ 0 ∷ 3 ∷ 0 ∷ 5
    ∷ 0 ∷ 0 ∷ 2 ∷ 0 ∷ 5
    ∷ 1 ∷ 0 ∷ 8 ∷ 0 ∷ 9
    ∷ 0 ∷ 0 ∷ 3 ∷ 0 ∷ 4
    ∷ 0 ∷ 0 ∷ 2 ∷ 0 ∷ 4
    ∷ 0 ∷ 0 ∷ 10 ∷ 0 ∷ 7
    ∷ 1 ∷ 0 ∷ 13 ∷ 0 ∷ 11
    ∷ 0 ∷ 0 ∷ 10 ∷ 0 ∷ 6
    ∷ 1 ∷ 0 ∷ 15 ∷ 0 ∷ 12
    ∷ 5 ∷ 0 ∷ 4 ∷ 0 ∷ 16 ∷ 0 ∷ 14 ∷ []

-- One contact.
abbrev pub single : List ℕ
single = 1 ∷ 0 ∷ 1 ∷ 1 ∷ 2 ∷ 0 ∷ 1 ∷ 0 ∷ 3 ∷ 0 ∷ 2 ∷ 0 ∷ 1 ∷ []

-- Two contacts, the first of them spare: the permit is contact 1.
abbrev pub spare : List ℕ
spare = 1 ∷ 0 ∷ 1 ∷ 2 ∷ 2 ∷ 0 ∷ 1 ∷ 0 ∷ 3 ∷ 0 ∷ 2 ∷ 0 ∷ 0 ∷ 3 ∷ 0 ∷ 2 ∷ 0 ∷ 1 ∷ []

-- Contact 3 where contacts 0 and 1 choose never, contact 2 open, always, or contact 2 closed; the second output takes contact 0 for
-- open.
abbrev pub chooser : List ℕ
chooser =
    1 ∷ 0 ∷ 1 ∷ 4 ∷ 2 ∷ 0 ∷ 2 ∷ 0 ∷ 1
    ∷ 3 ∷ 0 ∷ 4 ∷ 0 ∷ 1 ∷ 0 ∷ 0
    ∷ 3 ∷ 0 ∷ 4 ∷ 0 ∷ 1 ∷ 2 ∷ 3
    ∷ 3 ∷ 0 ∷ 8 ∷ 0 ∷ 0 ∷ 1 ∷ 0 ∷ 1 ∷ 1 ∷ 0 ∷ 1
    ∷ 3 ∷ 0 ∷ 4 ∷ 0 ∷ 0 ∷ 0 ∷ 1
    ∷ []

-- Left block: AND 3 5; AND 3 4; AND 2 5; AND 2 4. Right block: AND 7 9; OR 6 14; AND 7 8; AND 6 9; OR 7 17; AND 6 8.
-- First row, false: AND 11 15; AND 12 9; AND 13 18; OR 10 20; OR 21 22; OR 23 24.
-- First row, true: AND 11 16; AND 12 8; AND 13 19; OR 26 27; OR 29 28.
-- Second row: AND 4 15; OR 5 31; AND 4 16.
-- True line 30, false line 25; true line 33, false line 32.
abbrev pub chooser_gates : List ℕ
chooser_gates =
    0 ∷ 0 ∷ 3 ∷ 0 ∷ 5
    ∷ 0 ∷ 0 ∷ 3 ∷ 0 ∷ 4
    ∷ 0 ∷ 0 ∷ 2 ∷ 0 ∷ 5
    ∷ 0 ∷ 0 ∷ 2 ∷ 0 ∷ 4
    ∷ 0 ∷ 0 ∷ 7 ∷ 0 ∷ 9
    ∷ 1 ∷ 0 ∷ 6 ∷ 0 ∷ 14
    ∷ 0 ∷ 0 ∷ 7 ∷ 0 ∷ 8
    ∷ 0 ∷ 0 ∷ 6 ∷ 0 ∷ 9
    ∷ 1 ∷ 0 ∷ 7 ∷ 0 ∷ 17
    ∷ 0 ∷ 0 ∷ 6 ∷ 0 ∷ 8
    ∷ 0 ∷ 0 ∷ 11 ∷ 0 ∷ 15
    ∷ 0 ∷ 0 ∷ 12 ∷ 0 ∷ 9
    ∷ 0 ∷ 0 ∷ 13 ∷ 0 ∷ 18
    ∷ 1 ∷ 0 ∷ 10 ∷ 0 ∷ 20
    ∷ 1 ∷ 0 ∷ 21 ∷ 0 ∷ 22
    ∷ 1 ∷ 0 ∷ 23 ∷ 0 ∷ 24
    ∷ 0 ∷ 0 ∷ 11 ∷ 0 ∷ 16
    ∷ 0 ∷ 0 ∷ 12 ∷ 0 ∷ 8
    ∷ 0 ∷ 0 ∷ 13 ∷ 0 ∷ 19
    ∷ 1 ∷ 0 ∷ 26 ∷ 0 ∷ 27
    ∷ 1 ∷ 0 ∷ 29 ∷ 0 ∷ 28
    ∷ 0 ∷ 0 ∷ 4 ∷ 0 ∷ 15
    ∷ 1 ∷ 0 ∷ 5 ∷ 0 ∷ 31
    ∷ 0 ∷ 0 ∷ 4 ∷ 0 ∷ 16
    ∷ []

abbrev pub chooser_file : List ℕ
chooser_file =
    (1 ∷ 0 ∷ 1 ∷ 4 ∷ 4 ∷ 0 ∷ 120 ∷ []) ++ chooser_gates ++ (5 ∷ 0 ∷ 8 ∷ 0 ∷ 30 ∷ 0 ∷ 25 ∷ 0 ∷ 33 ∷ 0 ∷ 32 ∷ [])

-- With its lamp: AND 30 33; AND 25 32; OR 34 35; AND 30 32; AND 25 33; OR 37 38. Lamp 36 and 39.
abbrev pub chooser_lamp_file : List ℕ
chooser_lamp_file =
    (1 ∷ 0 ∷ 1 ∷ 4 ∷ 4 ∷ 0 ∷ 150 ∷ []) ++ chooser_gates
    ++ (0 ∷ 0 ∷ 30 ∷ 0 ∷ 33
    ∷ 0 ∷ 0 ∷ 25 ∷ 0 ∷ 32
    ∷ 1 ∷ 0 ∷ 34 ∷ 0 ∷ 35
    ∷ 0 ∷ 0 ∷ 30 ∷ 0 ∷ 32
    ∷ 0 ∷ 0 ∷ 25 ∷ 0 ∷ 33
    ∷ 1 ∷ 0 ∷ 37 ∷ 0 ∷ 38
    ∷ 5 ∷ 0 ∷ 8 ∷ 0 ∷ 30 ∷ 0 ∷ 25 ∷ 0 ∷ 33 ∷ 0 ∷ 32
    ∷ 6 ∷ 0 ∷ 4 ∷ 0 ∷ 36 ∷ 0 ∷ 39 ∷ [])

-- One contact, an output that is never on and one that always is.
abbrev pub steady : List ℕ
steady = 1 ∷ 0 ∷ 1 ∷ 1 ∷ 2 ∷ 0 ∷ 2 ∷ 0 ∷ 1 ∷ 3 ∷ 0 ∷ 4 ∷ 0 ∷ 0 ∷ 1 ∷ 1 ∷ []

-- Its lamp reads the constants: AND 0 1; AND 1 0; OR 4 5; AND 0 0; AND 1 1; OR 7 8. Lamp 6 and 9.
abbrev pub steady_lamp_file : List ℕ
steady_lamp_file =
    1 ∷ 0 ∷ 1 ∷ 1 ∷ 4 ∷ 0 ∷ 30
    ∷ 0 ∷ 0 ∷ 0 ∷ 0 ∷ 1
    ∷ 0 ∷ 0 ∷ 1 ∷ 0 ∷ 0
    ∷ 1 ∷ 0 ∷ 4 ∷ 0 ∷ 5
    ∷ 0 ∷ 0 ∷ 0 ∷ 0 ∷ 0
    ∷ 0 ∷ 0 ∷ 1 ∷ 0 ∷ 1
    ∷ 1 ∷ 0 ∷ 7 ∷ 0 ∷ 8
    ∷ 5 ∷ 0 ∷ 8 ∷ 0 ∷ 0 ∷ 0 ∷ 1 ∷ 0 ∷ 1 ∷ 0 ∷ 0
    ∷ 6 ∷ 0 ∷ 4 ∷ 0 ∷ 6 ∷ 0 ∷ 9 ∷ []

abbrev pub steady_lamp_sheet : List String
steady_lamp_sheet =
    " LINE KIN     A     B"
    ∷ "    4 AND     0     1"
    ∷ "    5 AND     1     0"
    ∷ "    6 OR      4     5"
    ∷ "    7 AND     0     0"
    ∷ "    8 AND     1     1"
    ∷ "    9 OR      7     8"
    ∷ "    0 OUT     0     1"
    ∷ "    1 OUT     1     0"
    ∷ "    0 LMP     6     9"
    ∷ []

-- The selector drawn with a node twice, a node that nothing mentions, and edges past a level.
abbrev pub redrawn : List ℕ
redrawn =
    1 ∷ 0 ∷ 1 ∷ 3 ∷ 2 ∷ 0 ∷ 1 ∷ 2 ∷ 7 ∷ 0 ∷ 18
    ∷ 0 ∷ 3 ∷ 4
    ∷ 1 ∷ 5 ∷ 0
    ∷ 1 ∷ 6 ∷ 1
    ∷ 2 ∷ 0 ∷ 1
    ∷ 2 ∷ 0 ∷ 1
    ∷ 2 ∷ 1 ∷ 0
    ∷ []

-- Five outputs of three contacts. With contact 0 fixed they leave seven functions of the others (numbers 4 to 10), the constant 0, and
-- what the last output leads to.
abbrev pub halves : ℕ → List ℕ
halves last =
    1 ∷ 0 ∷ 1 ∷ 3 ∷ 2 ∷ 0 ∷ 5 ∷ 11 ∷ 12 ∷ 13 ∷ 14 ∷ 15 ∷ 7 ∷ 0 ∷ 42
    ∷ 2 ∷ 0 ∷ 1
    ∷ 2 ∷ 1 ∷ 0
    ∷ 1 ∷ 0 ∷ 1
    ∷ 1 ∷ 1 ∷ 0
    ∷ 1 ∷ 0 ∷ 2
    ∷ 1 ∷ 2 ∷ 1
    ∷ 1 ∷ 2 ∷ 3
    ∷ 1 ∷ 3 ∷ 2
    ∷ 1 ∷ 1 ∷ 2
    ∷ 0 ∷ 4 ∷ 5
    ∷ 0 ∷ 6 ∷ 7
    ∷ 0 ∷ 8 ∷ 9
    ∷ 0 ∷ 10 ∷ 0
    ∷ 0 ∷ 5 ∷ last
    ∷ []

abbrev pub halves_table : List ℕ
halves_table =
    1 ∷ 0 ∷ 1 ∷ 3 ∷ 2 ∷ 0 ∷ 5 ∷ 0 ∷ 1 ∷ 2 ∷ 3 ∷ 4
    ∷ 3 ∷ 0 ∷ 10 ∷ 0 ∷ 1 ∷ 2 ∷ 3 ∷ 4 ∷ 5 ∷ 6 ∷ 7 ∷ 1 ∷ 0
    ∷ 3 ∷ 0 ∷ 16 ∷ 0 ∷ 1 ∷ 1 ∷ 0 ∷ 0 ∷ 2 ∷ 2 ∷ 1 ∷ 2 ∷ 3 ∷ 3 ∷ 2 ∷ 1 ∷ 2 ∷ 0 ∷ 0
    ∷ 3 ∷ 0 ∷ 8 ∷ 0 ∷ 0 ∷ 1 ∷ 1 ∷ 0 ∷ 1 ∷ 1 ∷ 0
    ∷ []

-- Notes: one of two bytes, an empty one, and one whose value looks like a field.
abbrev drawing_number : List ℕ
drawing_number = 128 ∷ 0 ∷ 2 ∷ 75 ∷ 54 ∷ []

abbrev empty_note : List ℕ
empty_note = 255 ∷ 0 ∷ 0 ∷ []

abbrev hidden_field : List ℕ
hidden_field = 200 ∷ 0 ∷ 4 ∷ 3 ∷ 0 ∷ 1 ∷ 0 ∷ []

-- The selector with notes before, between and after its fields.
abbrev noted : List ℕ
noted =
    drawing_number ++ (1 ∷ 0 ∷ 1 ∷ 3 ∷ []) ++ empty_note ++ drawing_number ++ (2 ∷ 0 ∷ 1 ∷ 0 ∷ 3 ∷ 0 ∷ 2 ∷ 0 ∷ 1 ∷ []) ++ hidden_field
    ++ (3 ∷ 0 ∷ 4 ∷ 0 ∷ 1 ∷ 0 ∷ 2 ∷ 3 ∷ 0 ∷ 6 ∷ 0 ∷ 1 ∷ 0 ∷ 0 ∷ 1 ∷ 1 ∷ []) ++ empty_note

-- A rule sheet of so many contacts and outputs, and a rule of it.
abbrev rule_sheet : ℕ → ℕ → List (List ℕ) → List ℕ
rule_sheet n m sheet = 1 ∷ 0 ∷ 1 ∷ n ∷ 8 ∷ 0 ∷ 1 ∷ m ∷ flat_map (λ (rule : List ℕ). 9 ∷ 0 ∷ length rule ∷ rule) sheet

-- The selector's rules: contact 1 open and contact 2 open or closed, then contact 1 closed and contact 0 open or closed.
abbrev selector_rules : List ℕ
selector_rules =
    rule_sheet 3 1 ((2 ∷ 0 ∷ 0 ∷ 0 ∷ []) ∷ (2 ∷ 0 ∷ 1 ∷ 1 ∷ []) ∷ (0 ∷ 1 ∷ 2 ∷ 0 ∷ []) ∷ (1 ∷ 1 ∷ 2 ∷ 1 ∷ []) ∷ [])

-- Eight outputs whose halves are sixteen functions of contacts 1 and 2.
abbrev wide_rules : List ℕ
wide_rules =
    rule_sheet 3 8
    ((0 ∷ 0 ∷ 0 ∷ 0 ∷ [])
    ∷ (0 ∷ 1 ∷ 0 ∷ 170 ∷ [])
    ∷ (0 ∷ 0 ∷ 1 ∷ 204 ∷ [])
    ∷ (0 ∷ 1 ∷ 1 ∷ 240 ∷ [])
    ∷ (1 ∷ 0 ∷ 0 ∷ 255 ∷ [])
    ∷ (1 ∷ 1 ∷ 0 ∷ 170 ∷ [])
    ∷ (1 ∷ 0 ∷ 1 ∷ 204 ∷ [])
    ∷ (1 ∷ 1 ∷ 1 ∷ 240 ∷ [])
    ∷ [])

-- The rails of input 6: contacts 1 and 2 closed.
abbrev sixth : List ℕ
sixth = 0 ∷ 1 ∷ 1 ∷ 0 ∷ 1 ∷ 0 ∷ []

abbrev pub starred : List Case
starred =
    checks selector 0 3 1 9 4
    ∷ builds selector 59 selector_file
    -- Input 3: contacts 0 and 1 closed, contact 2 open.
    ∷ runs selector_file (1 ∷ 0 ∷ 1 ∷ 0 ∷ 0 ∷ 1 ∷ []) [] (1 ∷ 0 ∷ [])
    -- Input 6 with line 10 held at 0: contact 1 is closed, pair 01 all the same.
    ∷ runs selector_file (0 ∷ 1 ∷ 1 ∷ 0 ∷ 1 ∷ 0 ∷ []) (0 ∷ 10 ∷ 0 ∷ []) (0 ∷ 1 ∷ [])
    ∷ probes selector (0 ∷ 10 ∷ 0 ∷ []) 0 0 0 0
    ∷ probes selector (0 ∷ 10 ∷ 1 ∷ []) 0 3 0 1
    -- Line 14 held at 0 and line 16 at 1, input 0: pair 10, wrong; mixed holds carry no claim.
    ∷ runs selector_file (0 ∷ 1 ∷ 0 ∷ 1 ∷ 0 ∷ 1 ∷ []) (0 ∷ 14 ∷ 0 ∷ 0 ∷ 16 ∷ 1 ∷ []) (1 ∷ 0 ∷ [])
    ∷ checks single 0 1 1 0 0
    ∷ builds single 14 (1 ∷ 0 ∷ 1 ∷ 1 ∷ 4 ∷ 0 ∷ 0 ∷ 5 ∷ 0 ∷ 4 ∷ 0 ∷ 2 ∷ 0 ∷ 3 ∷ [])
    -- Two contacts, one output, node 0: two alike nodes; a node out of turn.
    ∷ checks (1 ∷ 0 ∷ 1 ∷ 2 ∷ 2 ∷ 0 ∷ 1 ∷ 0 ∷ 3 ∷ 0 ∷ 2 ∷ 0 ∷ 1 ∷ 3 ∷ 0 ∷ 4 ∷ 0 ∷ 1 ∷ 0 ∷ 1 ∷ []) 6 0 0 0 0
    ∷ checks (1 ∷ 0 ∷ 1 ∷ 2 ∷ 2 ∷ 0 ∷ 1 ∷ 0 ∷ 3 ∷ 0 ∷ 2 ∷ 1 ∷ 0 ∷ 3 ∷ 0 ∷ 4 ∷ 0 ∷ 1 ∷ 1 ∷ 0 ∷ []) 7 0 0 0 0
    -- A level whose edges are equal: no gates, true line 4, false line 5, and nothing reads lines 2 and 3.
    ∷ checks spare 0 2 1 0 0
    ∷ builds spare 14 (1 ∷ 0 ∷ 1 ∷ 2 ∷ 4 ∷ 0 ∷ 0 ∷ 5 ∷ 0 ∷ 4 ∷ 0 ∷ 4 ∷ 0 ∷ 5 ∷ [])
    ∷ probes spare (0 ∷ 2 ∷ 0 ∷ []) 15 0 0 0
    ∷ probes spare (0 ∷ 3 ∷ 1 ∷ []) 15 0 0 0
    ∷ probes spare (0 ∷ 4 ∷ 0 ∷ []) 0 2 0 0
    ∷ probes spare (0 ∷ 4 ∷ 1 ∷ []) 0 0 0 1
    ∷ sheets selector_file
    (" LINE KIN     A     B"
    ∷ "    8 AND     3     5"
    ∷ "    9 AND     2     5"
    ∷ "   10 OR      8     9"
    ∷ "   11 AND     3     4"
    ∷ "   12 AND     2     4"
    ∷ "   13 AND    10     7"
    ∷ "   14 OR     13    11"
    ∷ "   15 AND    10     6"
    ∷ "   16 OR     15    12"
    ∷ "    0 OUT    16    14"
    ∷ [])
    ∷ draws redrawn 0 selector
    -- The constant 1, from no node.
    ∷ draws (1 ∷ 0 ∷ 1 ∷ 1 ∷ 2 ∷ 0 ∷ 1 ∷ 1 ∷ 7 ∷ 0 ∷ 0 ∷ []) 0 (1 ∷ 0 ∷ 1 ∷ 1 ∷ 2 ∷ 0 ∷ 1 ∷ 0 ∷ 3 ∷ 0 ∷ 2 ∷ 1 ∷ 1 ∷ [])
    -- Two contacts: an edge to a node of the same level; such an edge of a node that nothing mentions.
    ∷ draws (1 ∷ 0 ∷ 1 ∷ 2 ∷ 2 ∷ 0 ∷ 1 ∷ 2 ∷ 7 ∷ 0 ∷ 6 ∷ 0 ∷ 3 ∷ 1 ∷ 0 ∷ 0 ∷ 1 ∷ []) 16 []
    ∷ draws (1 ∷ 0 ∷ 1 ∷ 2 ∷ 2 ∷ 0 ∷ 1 ∷ 1 ∷ 7 ∷ 0 ∷ 3 ∷ 1 ∷ 0 ∷ 2 ∷ []) 16 []
    -- Eight functions of contacts 1 and 2, and nine.
    ∷ draws (halves 4) 0 halves_table
    ∷ draws (halves 1) 17 []
    -- Beyond the starred cases: two rows, both blocks with gates, and ORs of three and four terms.
    ∷ checks chooser 0 4 2 24 5
    ∷ builds chooser 138 chooser_file
    -- Lamps: one output, whose pair it is; two outputs, and two that are constants.
    ∷ lights single 21 (1 ∷ 0 ∷ 1 ∷ 1 ∷ 4 ∷ 0 ∷ 0 ∷ 5 ∷ 0 ∷ 4 ∷ 0 ∷ 2 ∷ 0 ∷ 3 ∷ 6 ∷ 0 ∷ 4 ∷ 0 ∷ 2 ∷ 0 ∷ 3 ∷ [])
    ∷ lights chooser 175 chooser_lamp_file
    ∷ lights steady 55 steady_lamp_file
    -- The lamp's pair last; with line 8 held at 0 it shows 00.
    ∷ runs steady_lamp_file (1 ∷ 0 ∷ []) [] (0 ∷ 1 ∷ 1 ∷ 0 ∷ 0 ∷ 1 ∷ [])
    ∷ runs steady_lamp_file (1 ∷ 0 ∷ []) (0 ∷ 8 ∷ 0 ∷ []) (0 ∷ 1 ∷ 1 ∷ 0 ∷ 0 ∷ 0 ∷ [])
    ∷ sheets steady_lamp_file steady_lamp_sheet
    -- Notes are passed over; a field of tag 127 and a note cut short are not.
    ∷ checks noted 0 3 1 9 4
    ∷ builds noted 59 selector_file
    ∷ probes noted (0 ∷ 10 ∷ 1 ∷ []) 0 3 0 1
    ∷ checks (noted ++ (127 ∷ 0 ∷ 0 ∷ [])) 4 0 0 0 0
    ∷ checks (noted ++ (128 ∷ 0 ∷ 1 ∷ [])) 1 0 0 0 0
    ∷ runs (hidden_field ++ selector_file ++ drawing_number) (1 ∷ 0 ∷ 1 ∷ 0 ∷ 0 ∷ 1 ∷ []) [] (1 ∷ 0 ∷ [])
    ∷ sheets (empty_note ++ steady_lamp_file ++ drawing_number) steady_lamp_sheet
    ∷ draws (drawing_number ++ redrawn ++ empty_note) 0 selector
    ∷ draws (redrawn ++ (128 ∷ 0 ∷ [])) 16 []
    -- Rule sheets: the selector's rules in two orders, and one rule that every input fits.
    ∷ rules selector_rules 0 selector
    ∷ rules (rule_sheet 3 1 ((1 ∷ 1 ∷ 2 ∷ 1 ∷ []) ∷ (2 ∷ 0 ∷ 1 ∷ 1 ∷ []) ∷ (0 ∷ 1 ∷ 2 ∷ 0 ∷ []) ∷ (2 ∷ 0 ∷ 0 ∷ 0 ∷ []) ∷ [])) 0 selector
    ∷ rules (rule_sheet 1 1 ((2 ∷ 1 ∷ []) ∷ [])) 0 (1 ∷ 0 ∷ 1 ∷ 1 ∷ 2 ∷ 0 ∷ 1 ∷ 0 ∷ 3 ∷ 0 ∷ 2 ∷ 1 ∷ 1 ∷ [])
    -- A word of 2^m; a contact of 3; a rule one byte short; no rule.
    ∷ rules (rule_sheet 1 1 ((2 ∷ 2 ∷ []) ∷ [])) 18 []
    ∷ rules (rule_sheet 1 1 ((3 ∷ 1 ∷ []) ∷ [])) 18 []
    ∷ rules (rule_sheet 2 1 ((2 ∷ 1 ∷ []) ∷ [])) 18 []
    ∷ rules (rule_sheet 1 1 []) 18 []
    -- An input that two rules share, with equal words; one, while another fits none; one that fits none.
    ∷ rules (rule_sheet 1 1 ((0 ∷ 1 ∷ []) ∷ (2 ∷ 1 ∷ []) ∷ [])) 19 []
    ∷ rules (rule_sheet 2 1 ((0 ∷ 2 ∷ 1 ∷ []) ∷ (0 ∷ 0 ∷ 0 ∷ []) ∷ [])) 19 []
    ∷ rules (rule_sheet 2 1 ((0 ∷ 2 ∷ 1 ∷ []) ∷ (1 ∷ 0 ∷ 0 ∷ []) ∷ [])) 20 []
    ∷ rules wide_rules 17 []
    ∷ rules (drawing_number ++ selector_rules ++ empty_note) 0 selector
    ∷ rules (selector_rules ++ (128 ∷ 0 ∷ [])) 18 []
    -- Pins. Held at 1, the first pin of line 8 is hidden, and so is that of line 9; the buffer has the lines at input 0, where the pin
    -- makes line 9 show 1. The second pin of line 8 is not hidden, nor is the first held at 0; 9 comes before hidden.
    ∷ leaves selector (0 ∷ 8 ∷ 3 ∷ []) 0 0 0 2
    (selector_file ++ (0 ∷ 1 ∷ 0 ∷ 1 ∷ 0 ∷ 1 ∷ 0 ∷ 1 ∷ 1 ∷ 0 ∷ 1 ∷ 0 ∷ 0 ∷ 1 ∷ 1 ∷ 0 ∷ 0 ∷ []))
    ∷ leaves selector (0 ∷ 9 ∷ 3 ∷ []) 0 0 0 2
    (selector_file ++ (0 ∷ 1 ∷ 0 ∷ 1 ∷ 0 ∷ 1 ∷ 0 ∷ 1 ∷ 1 ∷ 1 ∷ 1 ∷ 0 ∷ 0 ∷ 1 ∷ 1 ∷ 0 ∷ 0 ∷ []))
    ∷ probes selector (0 ∷ 8 ∷ 2 ∷ []) 0 0 0 0
    ∷ leaves selector (0 ∷ 8 ∷ 5 ∷ []) 0 6 0 1
    (selector_file ++ (0 ∷ 1 ∷ 0 ∷ 1 ∷ 1 ∷ 0 ∷ 1 ∷ 0 ∷ 1 ∷ 0 ∷ 1 ∷ 1 ∷ 0 ∷ 0 ∷ 1 ∷ 1 ∷ 1 ∷ []))
    ∷ leaves selector (0 ∷ 8 ∷ 3 ∷ []) 9 0 0 0 (replicate 75 0)
    -- Input 0 with the first pin of line 10 held at 0: pair 00. With line 10 held at 1 too its hold decides: pair 01.
    ∷ runs selector_file (0 ∷ 1 ∷ 0 ∷ 1 ∷ 0 ∷ 1 ∷ []) (0 ∷ 10 ∷ 2 ∷ []) (0 ∷ 0 ∷ [])
    ∷ runs selector_file (0 ∷ 1 ∷ 0 ∷ 1 ∷ 0 ∷ 1 ∷ []) (0 ∷ 10 ∷ 1 ∷ 0 ∷ 10 ∷ 2 ∷ []) (0 ∷ 1 ∷ [])
    -- A pin of a rail; a second pin before the first; a pin before a line; a pin twice; a value of 6.
    ∷ probes selector (0 ∷ 7 ∷ 3 ∷ []) 14 0 0 0
    ∷ refuses selector_file (0 ∷ 1 ∷ 0 ∷ 1 ∷ 0 ∷ 1 ∷ []) (0 ∷ 7 ∷ 2 ∷ []) 14
    ∷ refuses selector_file (0 ∷ 1 ∷ 0 ∷ 1 ∷ 0 ∷ 1 ∷ []) (0 ∷ 8 ∷ 5 ∷ 0 ∷ 8 ∷ 2 ∷ []) 14
    ∷ refuses selector_file (0 ∷ 1 ∷ 0 ∷ 1 ∷ 0 ∷ 1 ∷ []) (0 ∷ 8 ∷ 2 ∷ 0 ∷ 10 ∷ 0 ∷ []) 14
    ∷ refuses selector_file (0 ∷ 1 ∷ 0 ∷ 1 ∷ 0 ∷ 1 ∷ []) (0 ∷ 8 ∷ 2 ∷ 0 ∷ 8 ∷ 3 ∷ []) 14
    ∷ probes selector (0 ∷ 8 ∷ 6 ∷ []) 14 0 0 0
    -- Steps, input 6. Nine lines from line 2 on: line 10 is held at 1, the hold of line 14 comes too early. Then all that are left: the
    -- hold of line 10 comes too late. The pair is 11, as of one run with line 10 held at 1. A step of no line writes the pair again.
    ∷ steps selector_file sixth (0 ∷ 10 ∷ 1 ∷ 0 ∷ 14 ∷ 0 ∷ []) 2 9 (replicate 17 7) 11
    (0 ∷ 1 ∷ 0 ∷ 1 ∷ 1 ∷ 0 ∷ 1 ∷ 0 ∷ 0 ∷ 0 ∷ 1 ∷ 7 ∷ 7 ∷ 7 ∷ 7 ∷ 7 ∷ 7 ∷ []) (9 ∷ 9 ∷ [])
    ∷ steps selector_file sixth (0 ∷ 10 ∷ 0 ∷ []) 11 100 (0 ∷ 1 ∷ 0 ∷ 1 ∷ 1 ∷ 0 ∷ 1 ∷ 0 ∷ 0 ∷ 0 ∷ 1 ∷ 7 ∷ 7 ∷ 7 ∷ 7 ∷ 7 ∷ 7 ∷ []) 17
    (0 ∷ 1 ∷ 0 ∷ 1 ∷ 1 ∷ 0 ∷ 1 ∷ 0 ∷ 0 ∷ 0 ∷ 1 ∷ 1 ∷ 0 ∷ 0 ∷ 1 ∷ 1 ∷ 1 ∷ []) (1 ∷ 1 ∷ [])
    ∷ runs selector_file sixth (0 ∷ 10 ∷ 1 ∷ []) (1 ∷ 1 ∷ [])
    ∷ steps selector_file sixth [] 17 0 (replicate 17 1) 17 (0 ∷ replicate 16 1) (1 ∷ 1 ∷ [])
    -- A byte of 2 is read as 1 and stays: line 16 from line 15, and the pair.
    ∷ steps selector_file sixth [] 16 1 (replicate 14 0 ++ (255 ∷ 2 ∷ 0 ∷ [])) 17 ((0 ∷ 1 ∷ replicate 12 0) ++ (255 ∷ 2 ∷ 1 ∷ [])) (1 ∷ 1 ∷ [])
    -- Line 1 and line 18 are no place, line 17 is; a hold list is asked before the place, a buffer behind it, also where no pair is due.
    ∷ halts selector_file sixth [] 1 1 (replicate 17 7) 2 21
    ∷ halts selector_file sixth [] 18 0 (replicate 17 7) 2 21
    ∷ halts selector_file sixth (0 ∷ 7 ∷ 2 ∷ []) 1 1 (replicate 17 7) 2 14
    ∷ halts selector_file sixth [] 1 1 (replicate 16 7) 1 21
    ∷ halts selector_file sixth [] 2 1 (replicate 16 7) 2 9
    ∷ halts selector_file sixth [] 2 1 (replicate 17 7) 1 9
    ∷ []
