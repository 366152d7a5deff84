-- What probe finds at the smallest betraying input.
use Prim.Native.Nat.{ℕ, ◌*◌, ◌/◌, ◌^◌, ◌<◌}
use mathlib.Core.Path.{◌≡◌, sym, ap, ◌∙◌}
use mathlib.Core.Bool.{true}
use mathlib.Core.List.{List}
use lib.ListN.{length, get_or}
use Rattle.netlist.specs.declared.Hold.{Hold}
use Rattle.netlist.specs.declared.Pair.{Pair}
use Rattle.netlist.specs.Netlist.{Netlist, number_at, pairs_of}
use Rattle.netlist.proofs.Lists.{get_or-pairs}
use Rattle.stuck.specs.declared.answer.Way.{Way}
use Rattle.faults.specs.Betrayal.{stuck_at, some_no_code, betrays, is_seen, smallest_input, lowest_no_code}
use Rattle.stuck.specs.Service.{way_of, Answer, found_at}
use Rattle.fields.proofs.Least.{least_first}

abbrev found : ℕ → ℕ → Way → Answer
found input output way = record { refusal = 0; input = input; output = output; way = way }

-- The output and its true line's value, as the outputs' bytes name them.
pub found-by : (pairs vs : List ℕ) (input output on : ℕ) (way : Way) → output < length pairs / 4 →
    output ≡ lowest_no_code (pairs_of pairs) vs → on ≡ get_or vs (number_at pairs (4 * output)) 0 → way ≡ way_of on →
    record { refusal = 0; input = input; output = output; way = way } ≡ found_at (pairs_of pairs) input vs
found-by pairs vs input output on way l o e w =
    let none : Pair = record { on = 0; off = 0 } in
    let shown : ℕ → Way = λ j. way_of (get_or vs (get_or (pairs_of pairs) j none).on 0) in
    ap (found input output) (w ∙ ap way_of (e ∙ ap (λ (p : Pair). get_or vs p.on 0) (sym (get_or-pairs pairs output none l))))
    ∙ ap (λ (j : ℕ). found input j (shown j)) o

-- At the smallest betraying input some pair shows no code.
pub betrayed-there : (net : Netlist) (h : Hold) → is_seen net h ≡ true → some_no_code net.pairs (stuck_at net h (smallest_input net h)) ≡ true
unfolding is_seen betrays
betrayed-there net h seen = (least_first (betrays net h) (2 ^ net.contacts) seen).passes
