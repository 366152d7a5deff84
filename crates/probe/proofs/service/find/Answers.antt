-- `service::find` meets its contract: the smallest input is searched, and the line values there, or at input 0, are written; those there
-- are read again behind the file.
use Prim.Native.Nat.{ℕ, ◌+◌, ◌-◌, ◌/◌}
use native.Mathlib.Omega.{arith}
use mathlib.Core.Path.{◌≡◌, sym, ap, ◌∙◌}
use mathlib.Core.List.{List, [], ◌++◌}
use lib.ListN.{length, take, drop}
use Rattle.netlist.specs.declared.Hold.{Hold}
use Rattle.netlist.specs.Netlist.{pairs_of, gate_line, hold_at, file_with, net_of}
use native.Mathlib.Nat.{add-zero}
use Rattle.netlist.proofs.Written.{length-file}
use Rattle.files.specs.Room.{over}
use Rattle.faults.specs.Betrayal.{stuck_at}
use Rattle.search.specs.Inner.Found.{found_in}
use Rattle.stuck.specs.Service.{found_at}
use Rattle.probe.proofs.Findings.{read_behind, length-lines, betrayed-at, answer-seen, answer-hidden}
use Rattle.probe.proofs.service.find.Goals.{After-search, After-line_count}
use Rattle.probe.proofs.service.find.Goals as goal

-- The search's answer.
searched : (c : After-search) → c.search.result ≡ found_in (net_of c.args.board.contacts c.args.board.gates.now c.args.board.pairs.now) (hold_at c.args.hold.now 0)
searched c =
    let b = c.args.board in
    c.search.ensures ∙ ap (found_in (net_of b.contacts b.gates.now b.pairs.now)) c.hold_at.ensures

-- The bytes behind a file are the line values that were written there.
module _ (n : ℕ) (gates pairs : List ℕ) (h : Hold) (input : ℕ) where
  abbrev values : List ℕ
  values = stuck_at (net_of n gates pairs) h input

  part : (at : ℕ) (before : List ℕ) {after : List ℕ} {count : ℕ} → at ≡ 10 + length gates + length pairs →
      after ≡ over (file_with n gates pairs [] ++ values) before → count ≡ gate_line n + length gates / 5 →
      take (at + count - at) (drop at after) ≡ values
  part at before {count = count} e w many =
      let lines = length-lines n gates pairs h input in
      ap (λ (l : List ℕ). take (at + count - at) (drop at l)) w
      ∙ read_behind (file_with n gates pairs []) values before at (at + count - at) (length-file n gates pairs [] ∙ add-zero _ ∙ sym e) (omega arith)

pub returns-in_default : goal.returns-in_default
returns-in_default c =
    answer-hidden _ _ _ c.args.buffer.now (sym c.in_default.is ∙ searched (goal.at.returns-in_default c).After-search)
    c.hidden.ensures
    c.write_at.ensures.buffer_after

-- What is lent are the line values that were written behind the file.
shown : (c : After-line_count) → take (c.write_at-start.result + c.line_count.result - c.write_at-start.result)
    (drop c.write_at-start.result c.write_at-start.new.buffer)
    ≡ values c.args.board.contacts c.args.board.gates.now c.args.board.pairs.now (hold_at c.args.hold.now 0) c.in-Some.input
shown c =
    let b = c.args.board in
    let w = c.write_at-start in
    part b.contacts b.gates.now b.pairs.now (hold_at c.args.hold.now 0) c.in-Some.input w.result c.args.buffer.now w.ensures.value
    w.ensures.buffer_after c.line_count.ensures

pub invariant_of-shown : goal.invariant_of-shown
invariant_of-shown c =
    let b = c.args.board in
    let count = length-lines b.contacts b.gates.now b.pairs.now (hold_at c.args.hold.now 0) c.in-Some.input in
    record {
      few = omega (arith, c.requires.bytes.1);
      paired = rw (shown (goal.at.invariant_of-shown c).After-line_count, count) b.paired;
    }

pub name_output-requires : goal.name_output-requires
name_output-requires c =
    let b = c.args.board in
    let at = goal.at.name_output-requires c in
    rw (shown at.After-line_count)
    (betrayed-at (net_of b.contacts b.gates.now b.pairs.now) (hold_at c.args.hold.now 0) c.in-Some.input (sym c.in-Some.is ∙ searched at.After-search))

pub returns : goal.returns
returns c =
    let at = goal.at.returns c in
    answer-seen _ _ _ c.args.buffer.now c.in-Some.input (sym c.in-Some.is ∙ searched at.After-search)
    (c.name_output.ensures ∙ ap (found_at (pairs_of c.args.board.pairs.now) c.in-Some.input) (shown at.After-line_count))
    c.write_at-start.ensures.buffer_after
