-- `passes::HeldBoard::work_batches` meets its contract: the gates are worked out from the constants and the rails, in both batches.
use Prim.Native.Nat.{ℕ, ◌+◌, ◌<◌}
use native.Mathlib.Omega.{arith}
use mathlib.Core.Path.{◌≡◌, ap, ◌∙◌}
use mathlib.Core.List.{List, [], ◌∷◌, map}
use lib.ListN.{take, length-map}
use Rattle.diagram.specs.Diagram.{input_of}
use Rattle.netlist.specs.Netlist.{gate_line, gates_of}
use Rattle.simulation.specs.Run.{rail, gate, work_out}
use Rattle.rules.specs.Code.{code_rails}
use Rattle.batches.specs.declared.batch.TwoBatches.{TwoBatches}
use Rattle.batches.specs.Inner.Batches.{firsts, seconds, rule_of, rails_at}
use Rattle.bits.specs.Inner.Bits.{bits_of}
use Rattle.search.proofs.GateBatches.{constant-held}
use Rattle.search.proofs.Halves.{half-set}
use Rattle.search.proofs.Lines.{constants, run-parts}
use Rattle.search.proofs.passes.HeldBoard.work_batches.Goals.{After-put_rails}
use Rattle.search.proofs.passes.HeldBoard.work_batches.Goals as goal

-- What the rails show in the first batches and in the second.
first-rails : (c : After-put_rails) (k : ℕ) → k < 64 →
    bits_of k (take (gate_line c.args.self.board.contacts) (firsts c.put_rails.new.batches))
    ≡ rails_at c.args.self.board.contacts c.args.base c.args.self.hold k (0 ∷ 1 ∷ [])
first-rails c k l =
    let first : TwoBatches → ℕ = λ w. w.first in
    let ws = c.args.batches.now in
    c.put_rails.ensures.first k l
    ∙ ap (work_out (rule_of c.args.self.hold) (map rail (code_rails c.args.self.board.contacts (input_of (c.args.base + k)))))
    (ap (λ (us : List ℕ). bits_of k (take 2 us)) (half-set first ws 0 1 c.same_batches.result c.same_batches-2.result)
    ∙ constants k (firsts ws) _ _ (c.same_batches.ensures.first k l) (c.same_batches-2.ensures.first k l) (omega (arith, length-map ws first)))

second-rails : (c : After-put_rails) (k : ℕ) → k < 64 →
    bits_of k (take (gate_line c.args.self.board.contacts) (seconds c.put_rails.new.batches))
    ≡ rails_at c.args.self.board.contacts (c.args.base + 64) c.args.self.hold k (0 ∷ 1 ∷ [])
second-rails c k l =
    let second : TwoBatches → ℕ = λ w. w.second in
    let ws = c.args.batches.now in
    c.put_rails.ensures.second k l
    ∙ ap (work_out (rule_of c.args.self.hold) (map rail (code_rails c.args.self.board.contacts (input_of (c.args.base + 64 + k)))))
    (ap (λ (us : List ℕ). bits_of k (take 2 us)) (half-set second ws 0 1 c.same_batches.result c.same_batches-2.result)
    ∙ constants k (seconds ws) _ _ (c.same_batches.ensures.second k l) (c.same_batches-2.ensures.second k l) (omega (arith, length-map ws second)))

pub put_gates-requires-clause-constants : goal.put_gates-requires-clause-constants
put_gates-requires-clause-constants c =
    let at = (goal.at.put_gates-requires-clause-constants c).After-put_rails in (
      λ k v l lv. constant-held k _ _ _ (gate_line c.args.self.board.contacts) v (omega arith) (omega arith) (first-rails at k l),
      λ k v l lv. constant-held k _ _ _ (gate_line c.args.self.board.contacts) v (omega arith) (omega arith) (second-rails at k l),
    )

pub returns-clause-first : goal.returns-clause-first
returns-clause-first c =
    let a = c.args.self in
    λ k l.
    c.put_gates.ensures.first k l
    ∙ ap (work_out (rule_of a.hold) (map gate (gates_of a.board.gates.now))) (first-rails (goal.at.returns-clause-first c).After-put_rails k l)
    ∙ run-parts a.board.contacts a.board.gates.now a.hold (c.args.base + k)

pub returns-clause-second : goal.returns-clause-second
returns-clause-second c =
    let a = c.args.self in
    λ k l.
    c.put_gates.ensures.second k l
    ∙ ap (work_out (rule_of a.hold) (map gate (gates_of a.board.gates.now))) (second-rails (goal.at.returns-clause-second c).After-put_rails k l)
    ∙ run-parts a.board.contacts a.board.gates.now a.hold (c.args.base + 64 + k)
