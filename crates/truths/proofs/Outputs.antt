-- What a drawing that question 16 lets through has: its nodes, and outputs that are its numbers.
use Prim.Native.Nat.{ℕ, ◌+◌, ◌*◌, ◌-◌, ◌^◌, ◌≤◌, ◌<◌}
use native.Mathlib.Nat.{zero-mod}
use native.Mathlib.Omega.{arith}
use mathlib.Core.Path.{◌≡◌, sym, ap, ◌∙◌}
use mathlib.Core.List.{List, ◌++◌}
use borrow.Rule.Slice.PartMut.{put_mid, post_of}
use borrow.Author.Tests.{ltb-true}
use lib.ListN.{length, get_or, take, get_or-append}
use lib.Seq.{length-take-le, get_or-take}
use Rattle.std.proofs.lemmas.List.{get_or-append_right}
use Rattle.rows.specs.Inner.Rows.{Tabulated}
use Rattle.rows.proofs.Rows.{one-row}
use Rattle.drawing.specs.Drawing.{Drawing, node_count, drawn_at}
use Rattle.drawing.proofs.Leads.{nodes-sound, output-number}
use Rattle.truths.specs.Inner.Words.{Limited, Ready, Block}

pub ready_for : (d : Drawing) → Limited d → Ready d.contacts d.nodes
ready_for d l = record { contacts = l.contacts; few = l.nodes; sound = nodes-sound d l.sound }

pub number-for : (d : Drawing) → Limited d → (j : ℕ) → j < length d.outputs → get_or d.outputs j 0 < 2 + node_count d.nodes
number-for d l j h = ltb-true _ _ (output-number d l.sound j h)

-- One output's truth table more.
pub one-put : (d : Drawing) (j at k left : ℕ) (before block : List ℕ) → at ≡ j * 2 ^ (d.contacts - 6) → left ≡ d.contacts - 6 →
    at ≤ length before → length block ≡ 2 ^ (d.contacts - 6) → Block d.contacts left d.nodes (get_or d.outputs j 0) block →
    Tabulated d.contacts j (drawn_at d) before → Tabulated d.contacts (j + 1) (drawn_at d) (put_mid at k before block)
one-put d j at k left before block place over room long b r =
    one-row d.contacts (drawn_at d) j before (put_mid at k before block)
    (λ w g. rw (inside w g) (rw (let z : 0 + w ≡ w = omega arith in z) at (b.held 0 w (zero-mod (2 ^ left)) (rw over g))))
    (λ i h. get_or-append (take at before) rest 0 i (omega (arith, front, place)) ∙ get_or-take at before i 0 (omega (arith, place))) r
  where
    rest : List ℕ
    rest = block ++ post_of at k before

    front : length (take at before) ≡ at
    front = length-take-le at before room

    inside : (w : ℕ) → w < 2 ^ (d.contacts - 6) → get_or (put_mid at k before block) (j * 2 ^ (d.contacts - 6) + w) 0 ≡ get_or block w 0
    inside w g =
        ap (λ (i : ℕ). get_or (put_mid at k before block) (i + w) 0) (sym place)
        ∙ get_or-append_right (take at before) rest at (at + w) 0 front (omega arith)
        ∙ ap (λ (i : ℕ). get_or rest i 0) (let e : at + w - at ≡ w = omega arith in e)
        ∙ get_or-append block (post_of at k before) 0 w (omega (arith, long))
