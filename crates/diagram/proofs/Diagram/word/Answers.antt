-- `Diagram::word` meets its contract. The loop's invariant: `word` is that of the outputs passed, each a byte, so that the sum fits.
use native.Mathlib.Omega.{arith}
use native.Mathlib.Nat.{mul-le-mul_right}
use native.Mathlib.Numerals.{add-one}
use Prim.Native.Nat.{ℕ, ◌+◌, ◌*◌, ◌%◌, ◌^◌, ◌≤◌, ◌<◌}
use mathlib.Core.Path.{◌≡◌, refl, ap, ◌∙◌}
use lib.ListN.{get_or, take}
use Rattle.std.proofs.lemmas.List.{get_or-take}
use lib.Pow.{shl_exact}
use Rattle.diagram.specs.declared.Diagram.{Diagram}
use Rattle.diagram.specs.Diagram.{input_of, path, root, value_at, word_of, word_at}
use Rattle.diagram.proofs.Diagram.word.Goals as goal

-- A byte v, shifted by j and added to the word w of j outputs.
exact : (v j : ℕ) → v < 256 → j < 8 → v * 2 ^ j % 2 ^ 32 ≡ v * 2 ^ j
exact v j b h = shl_exact 8 j 32 b (omega arith)

grown : (w v j : ℕ) → v < 256 → w + 255 ≤ 255 * 2 ^ j → w + v * 2 ^ j + 255 ≤ 255 * 2 ^ (j + 1)
grown w v j b g =
    let m : v * 2 ^ j ≤ 255 * 2 ^ j = mul-le-mul_right (2 ^ j) (omega arith) in
    rw (add-one j) (omega arith)

one_more : (d : Diagram) (a j w v : ℕ) → w ≡ word_at d (input_of a) j →
    v ≡ path d (input_of a) d.contacts 0 (get_or d.roots j 0) → w + v * 2 ^ j ≡ word_at d (input_of a) (j + 1)
unfolding word_of value_at root
one_more d a j w v e f = rw (add-one j) (cc)

pub loop-j-init : goal.loop-j-init
unfolding word_of
loop-j-init c = (omega arith, refl)

pub loop-j-preserved : goal.loop-j-preserved
loop-j-preserved c =
    let a = c.args in
    let loop = c.loop-j in
    let few : loop.j < 8 = omega (arith, c.requires.1) in
    let read : get_or (take a.self.now.outputs a.self.now.roots) loop.j 0 ≡ get_or a.self.now.roots loop.j 0 = get_or-take a.self.now.outputs a.self.now.roots loop.j 0 (omega arith) in
    let byte : c.lead.result < 256 = omega (arith, c.lead.type_inv) in
    let e = exact c.lead.result loop.j byte few in (
      rw e (grown loop.word c.lead.result loop.j byte loop.invariant.0),
      rw e (one_more a.self.now a.input loop.j loop.word c.lead.result loop.invariant.1 (c.lead.ensures ∙ ap (path a.self.now (input_of a.input) a.self.now.contacts 0) read)),
    )
