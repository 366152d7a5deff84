-- `sound::pairs_sound` meets its contract, by what the iterator's `all` says.
use mathlib.Core.Path.{◌≡◌, sym, ap, ◌∙◌}
use mathlib.Core.Bool.{true, false}
use mathlib.Core.List.{List, []}
use Prim.Native.Nat.{ℕ, ◌<◌}
use native.Mathlib.Omega.{arith}
use lib.ListN.{length, get_or}
use Rattle.std.proofs.Common.{rules}
use Rattle.std.proofs.lemmas.Iterator.{cases_from_all, YieldsList-from_slice}
use borrow.Author.Tests.{tests}
use Rattle.fields.specs.Bounded.{all}
use Rattle.netlist.specs.Netlist.{pair_at}
use Rattle.netlist.proofs.Chunks.{pair-chunk, all-cases}
use Rattle.wiring.specs.Questions.{is_pair}
use Rattle.wiring.proofs.sound.pairs_sound.Goals as goal

pub returns : goal.returns
returns c =
    let pairs = c.args.pairs.now in
    let lines = c.args.lines in
    let chunks = c.as_chunks.result.0.now in
    let test = λ (j : ℕ). is_pair lines (pair_at pairs j) in
    let its : (i : ℕ) → i < length chunks → is_pair lines (pair_at (get_or chunks i []) 0) ≡ test i = λ i l.
    ap (is_pair lines) (pair-chunk _ _ c.as_chunks.ensures.front (omega (arith, c.as_chunks.ensures.front_len))) in
    let Yes = λ (x : List ℕ). is_pair lines (pair_at x 0) ≡ true in
    let No = λ (x : List ℕ). is_pair lines (pair_at x 0) ≡ false in
    all-cases Yes No chunks [] test (λ i l y. sym (its i l) ∙ y) (λ i l n. sym (its i l) ∙ n) c.all.result
    (cases_from_all _ _ _ Yes No c.all.ensures.ran (YieldsList-from_slice chunks cc) (λ x q k. search (rules, tests)) (λ x q k. search (rules, tests)))
    ∙ ap (λ (n : ℕ). all n test) c.as_chunks.ensures.front_len
