-- `service::probe` meets its contract: each return is the case of `probing_of` that the table's refusal leads to.
use Prim.Native.Nat.{ℕ}
use native.Mathlib.Omega.{arith}
use mathlib.Core.Path.{sym}
use mathlib.Core.List.{List}
use Rattle.std.proofs.lemmas.Result.{err_from_is_err_and}
use Rattle.diagram.specs.declared.Diagram.{Diagram}
use Rattle.fields.specs.Fields.{Bytes}
use Rattle.synthesis.proofs.Services.{Unrefused, unrefused}
use Rattle.stuck.specs.Inner.Findings.{AcceptedDiagram}
use Rattle.stuck.proofs.Outcomes.{table-refused, probe-done}
use Rattle.probe.proofs.service.probe.Goals as goal

-- The diagram of a table that is accepted.
drawn : {table : List ℕ} {d : Diagram} → Bytes table → Unrefused table d → AcceptedDiagram d
drawn {table} bytes u = record { table = table; accepted = (bytes, sym u.yes); is = u.is }

pub returns-in_err-d : goal.returns-in_err-d
returns-in_err-d c =
    let p = err_from_is_err_and c.from_residual.result c.from_residual.ensures.1 in
    rw (p.1, p.2) (table-refused _ _ _ _ c.in_err-d.ensures.refusal)

pub most_gates-most-requires : goal.most_gates-most-requires
most_gates-most-requires c = let read = c.in_ok-d.ensures in (unrefused _ read.refusal read.diagram).sized

pub probe_within-requires : goal.probe_within-requires
probe_within-requires c =
    let read = c.in_ok-d.ensures in
    let u = unrefused _ read.refusal read.diagram in
    (drawn (λ i. omega (arith, c.type_inv.table i)) u, omega (arith, c.most_gates-most.ensures, c.if-most-le960), omega arith)

pub returns-then-most-le960 : goal.returns-then-most-le960
returns-then-most-le960 c =
    let read = c.in_ok-d.ensures in probe-done _ _ _ (unrefused _ read.refusal read.diagram) c.probe_within.ensures

pub probe_within-requires-then-most-le2880 : goal.probe_within-requires-then-most-le2880
probe_within-requires-then-most-le2880 c =
    let read = c.in_ok-d.ensures in
    let u = unrefused _ read.refusal read.diagram in
    (drawn (λ i. omega (arith, c.type_inv.table i)) u, omega (arith, c.most_gates-most.ensures, c.if-most-le2880), omega arith)

pub returns-then-most-le2880 : goal.returns-then-most-le2880
returns-then-most-le2880 c =
    let read = c.in_ok-d.ensures in probe-done _ _ _ (unrefused _ read.refusal read.diagram) c.probe_within-then-most-le2880.ensures

pub probe_within-requires-2 : goal.probe_within-requires-2
probe_within-requires-2 c =
    let read = c.in_ok-d.ensures in
    let u = unrefused _ read.refusal read.diagram in
    (drawn (λ i. omega (arith, c.type_inv.table i)) u, omega (arith, u.few), omega arith)

pub returns : goal.returns
returns c = let read = c.in_ok-d.ensures in probe-done _ _ _ (unrefused _ read.refusal read.diagram) c.probe_within-2.ensures
