-- Batches of 64 code inputs: bit k of a line's batch is the line's value at input base + k. A line has two, for 64 inputs each.
use Rattle.std.specs.Prelude.{ℕ, ◌+◌, ◌/◌, ◌≤◌, ◌<◌, ◌≡◌, true, ◌||◌, cond, List, [], ◌∷◌, map, eqb, length, get_or, take}
use Rattle.std.specs.Int.Bits.{bit_and, bit_or}
use Rattle.netlist.specs.declared.Hold.{Hold}
use Rattle.diagram.specs.Diagram.{input_of}
use Rattle.netlist.specs.Netlist.{gate_line, gates_of, site_of}
use Rattle.simulation.specs.Run.{Rule, rail, gate, held, holding, work_out}
use Rattle.rules.specs.Code.{code_rails}
use Rattle.wiring.specs.Questions.{are_gates, are_pairs}
use Rattle.bits.specs.Inner.Bits.{bit_of, bits_of}
use Rattle.batches.specs.declared.batch.TwoBatches.{TwoBatches}
use Rattle.batches.specs.declared.batch.Site.{Site}
use Rattle.batches.specs.declared.batch.Site.TheVariants.{Line, FirstPin, SecondPin}

-- The first batches of the lines, and the second.
abbrev pub firsts : List TwoBatches → List ℕ
firsts ws = map (λ (w : TwoBatches). w.first) ws

abbrev pub seconds : List TwoBatches → List ℕ
seconds ws = map (λ (w : TwoBatches). w.second) ws

-- A line's two batches.
abbrev pub none : TwoBatches
none = record { first = 0; second = 0 }

abbrev pub at : List TwoBatches → ℕ → TwoBatches
at ws i = get_or ws i none

-- What a gate makes of its kind's batch, which is 0 or 1 at every bit, and those of its sources.
abbrev pub gate_batch : ℕ → ℕ → ℕ → ℕ
gate_batch kind a b = bit_or (bit_and a b) (bit_and (bit_or a b) kind)

abbrev pub gate_batches : TwoBatches → TwoBatches → TwoBatches → TwoBatches
gate_batches kind a b =
    record { first = gate_batch kind.first a.first b.first; second = gate_batch kind.second a.second b.second }

-- What a line shows: the held line what it is held at.
abbrev pub held_batch : {A : Type 0} → ℕ → A → ℕ → A → A
held_batch line held at made = cond (eqb line at) held made

-- The number of a site in a hold's value byte.
abbrev pub site_number : Site → ℕ
site_number Line = 0
site_number FirstPin = 1
site_number SecondPin = 2

-- The line whose site is held, by the line's hold or the site's own; 0 if there is none.
abbrev pub held_line : Hold → ℕ → ℕ
held_line h site = cond (eqb (site_of h) 0 || eqb (site_of h) site) h.line 0

-- The run rule with one line or pin held.
abbrev pub rule_of : Hold → Rule ℕ
rule_of h = holding (h ∷ [])

-- The batches of the first lines have, input by input, these values.
abbrev pub BatchesAre : ℕ → List ℕ → (ℕ → List ℕ) → Type 0
BatchesAre count batches values = (k : ℕ) → k < 64 → bits_of k (take count batches) ≡ values k

-- The values at bit k of the rails after some lines, and of the gates.
abbrev pub rails_at : ℕ → ℕ → Hold → ℕ → List ℕ → List ℕ
rails_at n base h k before = work_out (rule_of h) (map rail (code_rails n (input_of (base + k)))) before

abbrev pub gates_at : List ℕ → Hold → List ℕ → List ℕ
gates_at gates h before = work_out (rule_of h) (map gate (gates_of gates)) before

-- A source of a line's gate; where the line or the pin is held, the line of its constant.
abbrev pub source_of : Hold → ℕ → ℕ → ℕ → ℕ
source_of h line pin source = held (h ∷ []) line pin (held (h ∷ []) line 0 source)

-- The first two lines' batches are their constants'.
abbrev pub AreConstants : List ℕ → Type 0
AreConstants batches = (k v : ℕ) → k < 64 → v ≤ 1 → bit_of k (get_or batches v 0) ≡ v

-- What a search goes through.
pub record SearchReady (n : ℕ) (gates pairs : List ℕ) : Type 0 where
  pub few : n ≤ 12
  pub fits : length gates / 5 ≤ 10560
  pub wired : are_gates (gate_line n) gates ≡ true
  pub paired : are_pairs (gate_line n + length gates / 5) pairs ≡ true

-- Room for the gates and for every line's batches.
pub record BuffersFit (n : ℕ) (gates : List ℕ) (room lines : ℕ) : Type 0 where
  pub gates-fit : length gates / 5 ≤ room
  pub batches-fit : gate_line n + length gates / 5 ≤ lines
