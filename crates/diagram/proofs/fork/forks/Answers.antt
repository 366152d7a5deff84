-- `fork::forks` meets its contract: the chunks of two are the nodes' edges.
use Rattle.std.proofs.Common.{rules, length-take, length-drop, get_or-take, get_or-drop}
use Prim.Native.Nat.{ℕ, ◌+◌, ◌*◌, ◌<◌}
use native.Mathlib.Omega.{arith}
use mathlib.Core.Path.{◌≡◌, ap, ap₂, ◌∙◌}
use mathlib.Core.Bool.{not}
use borrow.Rule.Slice.PartMut.{mid_of}
use lib.Dec.{eqb}
use lib.ListN.{length, get_or}
use Rattle.diagram.specs.Inner.Bytes.{is_fork_at}
use Rattle.diagram.proofs.Chunks.{any-chunk}
use Rattle.diagram.proofs.fork.forks.Goals as goal

pub returns : goal.returns
returns c =
    let edges = c.args.edges.now in
    let from = c.args.from in
    let n = c.args.nodes in
    let part = mid_of from (2 * n) edges in
    let long : length part ≡ 2 * n = simp (length-take, length-drop) (omega arith) in
    let byte : (k j : ℕ) → k < 2 * n → from + k ≡ j → get_or part k 0 ≡ get_or edges j 0 = λ k j h e. rw (get_or-take, get_or-drop) (ap (λ (i : ℕ). get_or edges i 0) e) in
    any-chunk part _ (c.chunks_exact.ensures.rest ∙ ap (λ (k : ℕ). mid_of from k edges) (omega arith)) c.chunks_exact.ensures.size c.chunks_exact.ensures.runs _ _
    (λ a r f h. search rules) (λ v w. not (eqb v w)) (λ x b e h. search rules)
    n long (is_fork_at edges from) (λ u h. ap₂ (λ (v w : ℕ). not (eqb v w)) (byte (2 * u) _ (omega arith) (omega arith)) (byte (2 * u + 1) _ (omega arith) (omega arith)))
    c.any.result c.any.ensures.runs
