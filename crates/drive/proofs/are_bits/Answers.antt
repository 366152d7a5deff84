-- `are_bits` meets its contract, by what the iterator's `all` says of each contact's two rails.
use native.Mathlib.Omega.{arith}
use Prim.Native.Nat.{ℕ, zero, suc, ◌+◌, ◌*◌, ◌/◌, ◌<◌}
use mathlib.Core.Path.{◌≡◌, refl, sym, ap, ap₂, ◌∙◌}
use mathlib.Core.Bool.{Bool, true, false, ◌&&◌, and_assoc}
use mathlib.Core.List.{List, []}
use borrow.Author.Tests.{tests}
use lib.Dec.{leb}
use lib.ListN.{length, get_or}
use Rattle.std.proofs.Common.{rules}
use Rattle.std.proofs.lemmas.Iterator.{cases_from_all, YieldsList-from_slice}
use Rattle.fields.specs.Bounded.{all}
use Rattle.fields.proofs.Bounded.{all-last}
use Rattle.netlist.proofs.Chunks.{all-cases, chunk-at}
use Rattle.drive.specs.Questions.{is_bit}
use Rattle.drive.proofs.are_bits.Goals as goal

-- Two by two.
in_pairs : (p : ℕ → Bool) (k : ℕ) → all k (λ g. p (2 * g) && p (2 * g + 1)) ≡ all (2 * k) p
unfolding all
in_pairs p zero = refl
in_pairs p (suc k) =
    ap (λ (b : Bool). b && (p (2 * k) && p (2 * k + 1))) (in_pairs p k)
    ∙ sym (and_assoc (all (2 * k) p) (p (2 * k)) (p (2 * k + 1)))
    ∙ ap (λ (b : Bool). b && p (2 * k + 1)) (sym (all-last p (2 * k)))
    ∙ sym (all-last p (2 * k + 1))
    ∙ (let more : 2 * k + 1 + 1 ≡ 2 * suc k = omega arith in ap (λ (n : ℕ). all n p) more)

pub returns : goal.returns
returns c =
    let rails = c.args.rails.now in
    let chunks = c.as_chunks.result.0.now in
    let test = λ (g : ℕ). is_bit rails (2 * g) && is_bit rails (2 * g + 1) in
    let byte : (g j i : ℕ) → g < length chunks → j < 2 → i ≡ 2 * g + j → get_or (get_or chunks g []) j 0 ≡ get_or rails i 0 = λ g j i l h e.
    ap (λ (cs : List (List ℕ)). get_or (get_or cs g []) j 0) c.as_chunks.ensures.front
    ∙ chunk-at 2 (length rails / 2) rails g [] j i (omega (arith, l, c.as_chunks.ensures.front_len)) h e in
    let its : (g : ℕ) → g < length chunks → (is_bit (get_or chunks g []) 0 && is_bit (get_or chunks g []) 1) ≡ test g = λ g l.
    ap₂ (λ (on off : ℕ). leb on 1 && leb off 1) (byte g 0 (2 * g) l (omega arith) (omega arith))
    (byte g 1 (2 * g + 1) l (omega arith) refl) in
    let Yes = λ (x : List ℕ). (is_bit x 0 && is_bit x 1) ≡ true in
    let No = λ (x : List ℕ). (is_bit x 0 && is_bit x 1) ≡ false in
    all-cases Yes No chunks [] test (λ g l y. sym (its g l) ∙ y) (λ g l n. sym (its g l) ∙ n) c.all.result
    (cases_from_all _ _ _ Yes No c.all.ensures.ran (YieldsList-from_slice chunks cc) (λ x q k. search (rules, tests)) (λ x q k. search (rules, tests)))
    ∙ ap (λ (n : ℕ). all n test) c.as_chunks.ensures.front_len
    ∙ in_pairs (is_bit rails) (length rails / 2)
