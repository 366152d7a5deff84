-- `page::put_pairs` meets its contract.
use native.Mathlib.Nat.{zero-add}
use native.Mathlib.Omega.{arith}
use Prim.Native.Nat.{ℕ, ◌/◌, ◌<◌}
use mathlib.Core.Path.{◌≡◌, refl, sym, ap, ◌∙◌}
use lib.ListN.{length}
use Rattle.netlist.specs.Netlist.{pair_at, pairs_of}
use Rattle.netlist.proofs.Chunks.{pair-chunk}
use Rattle.sheet.specs.Sheet.{pair_row}
use Rattle.sheet.proofs.Pages.{filled, none_filled, row_more}
use Rattle.sheet.proofs.page.put_pairs.Goals.{After-from-pair}
use Rattle.sheet.proofs.page.put_pairs.Goals as goal

pub loop-j-init : goal.loop-j-init
loop-j-init c = record { room = refl; written = none_filled (pair_row _) _ _ 0 _ }

module _ (c : After-from-pair) where
  within : c.loop-j.j < length c.args.pairs.now / 4
  within = omega (arith, c.as_chunks.ensures.front_len)

  here : c.from-pair.result ≡ pair_at c.args.pairs.now c.loop-j.j
  here = c.from-pair.ensures ∙ pair-chunk _ _ c.as_chunks.ensures.front within

pub put_next-requires : goal.put_next-requires
put_next-requires c =
    let l = within (goal.at.put_next-requires c).After-from-pair in
    (omega (arith, c.requires), omega (arith, c.requires, c.loop-j.invariant.room))

pub loop-j-preserved : goal.loop-j-preserved
loop-j-preserved c =
    let a = c.args in
    let inv = c.loop-j.invariant in
    let j = c.loop-j.j in
    record {
      room = c.put_next.auto.text ∙ inv.room;
      written = row_more (pair_row a.kind) a.text.now a.before 0 (pair_at a.pairs.now) j inv.written refl
          (ap (pair_row a.kind j) (here (goal.at.loop-j-preserved c).After-from-pair)
          ∙ ap (λ (k : ℕ). pair_row a.kind k (pair_at a.pairs.now j)) (sym (zero-add j)))
          c.put_next.ensures;
    }

pub returns : goal.returns
unfolding pairs_of
returns c =
    let a = c.args in
    c.loop-j.invariant.written
    ∙ ap (filled (pair_row a.kind) a.text.now a.before 0 (pair_at a.pairs.now)) (omega (arith, c.as_chunks.ensures.front_len))
