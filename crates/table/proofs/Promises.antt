-- What an accepted table is.
use Prim.Native.Nat.{ℕ, ◌-◌}
use native.Mathlib.Omega.{arith}
use mathlib.Core.Path.{◌≡◌, sym, ap, ◌∙◌}
use Rattle.diagram.specs.Diagram.{root, input_of, path, word_at}
use Rattle.table.specs.Promises.{NodesReached, NodesApart, SameWords, TableWritesBack}
use Rattle.table.specs.Table.{diagram_in}
use Rattle.table.proofs.Accepted.{accepted}
use Rattle.diagram.proofs.Apart.{apart}
use Rattle.table.proofs.Encode.{bytes-are}
use Rattle.diagram.proofs.Inputs.{input_number}
use Rattle.diagram.proofs.Paths.{path-same}
use Rattle.diagram.proofs.Reached.{reached}
use Rattle.table.proofs.SameFile.{same-file}
use Rattle.diagram.proofs.Words.{same-words}

pub nodes-reached : NodesReached
nodes-reached file t l u h i =
    let d = diagram_in file in
    let (j, hj, x, leads) = reached d (accepted file t.1).reduced.counted l h u i in
    let (a, ha, same) = input_number x d.contacts in
    (j, hj, a, ha, path-same d (input_of a) x l 0 (root d j) (λ k _ g. same k (omega arith)) ∙ leads)

pub nodes-apart : NodesApart
nodes-apart file t l u v h hu hv ne =
    let d = diagram_in file in
    let r = (accepted file t.1).reduced in
    let left = d.contacts - l in
    let (x, told) = apart d r.ranged r.differing left l u v (omega arith) hu hv ne in
    let (a, ha, same) = input_number x d.contacts in
    let along : (w : ℕ) → path d (input_of a) left l w ≡ path d x left l w = λ w.
    path-same d (input_of a) x left l w (λ k _ g. same k (omega arith)) in
    (a, ha, λ p. told (sym (along u) ∙ p ∙ along v))

pub table-writes-back : TableWritesBack
table-writes-back file t = bytes-are file (accepted file t.1)

pub same_bytes : SameWords
same_bytes file other t t' n m words =
    let d = diagram_in file in
    let e = diagram_in other in
    let same = same-words d e (accepted file t.1).reduced (accepted other t'.1).reduced n m
    (λ a h. words a h ∙ ap (word_at e (input_of a)) (sym m)) in
    sym (table-writes-back file t) ∙ same-file d e n m same ∙ table-writes-back other t'
