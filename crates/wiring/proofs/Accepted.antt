-- What a yes to questions 11 and 12 says of a netlist file.
use native.Mathlib.Omega.{arith}
use Prim.Native.Nat.{ℕ, ◌+◌, ◌/◌, ◌≤◌}
use mathlib.Core.Path.{◌≡◌, refl, sym, ap, ◌∙◌}
use mathlib.Core.Bool.{Bool, true, false, ◌&&◌, ◌||◌, cond}
use mathlib.Core.List.{List, [], ◌∷◌}
use borrow.Author.Tests.{leb-true}
use lib.Dec.{eqb, leb}
use lib.ListN.{length, drop, drop_of_length-le}
use Rattle.fields.specs.declared.Framing.{Framing}
use Rattle.fields.specs.declared.Framing.TheVariants.{Whole, Broken}
use Rattle.fields.specs.Fields.{Item, Fields, fields_of, item_in, value_in}
use Rattle.fields.specs.Refusals.{framing_number, first_no}
use Rattle.fields.proofs.Bounded.{and_left, and_right}
use Rattle.fields.proofs.Places.{item-at}
use Rattle.files.specs.Header.{contacts_in, contacts_number, contacts_of, has_parts}
use Rattle.files.proofs.WholeParts.{HasParts, part_at}
use Rattle.files.proofs.Heads.{field, counts}
use Rattle.netlist.specs.Netlist.{gate_line, lamp_field}
use Rattle.netlist.proofs.Lists.{length-gates, get_or-gates, length_pairs, get_or-pairs}
use Rattle.netlist.proofs.Sound.{Bounds, Wired, PairsWired, LampWired}
use Rattle.std.specs.Prelude.{Option, Some, None}
use Rattle.wiring.specs.declared.sound.Wiring.TheVariants.{Sound, Unsound}
use Rattle.wiring.specs.Questions.{ends_in_lamp, form_of, form_number, are_gates, are_pairs, is_sound, wiring_number, netlist_of, netlist_refusal}
use Rattle.wiring.proofs.Tests.{gates-at, pairs-at}

-- What a yes to question 11 says: n contacts, and whole gates, outputs and lamps within their bounds.
pub record WellFormed (fs : Fields) (n : ℕ) : Type 0 where
  pub whole : fs.framing ≡ Whole
  pub contacts : n ≡ contacts_of fs.items
  pub items : fs.items
      ≡ field 1 (n ∷ []) ∷ field 4 (value_in fs.items 1) ∷ field 5 (value_in fs.items 2) ∷ lamp_field (value_in fs.items 3)
  pub least : 1 ≤ n
  pub most : n ≤ 12
  pub gates : HasParts 5 0 10602 (value_in fs.items 1)
  pub pairs : HasParts 4 1 8 (value_in fs.items 2)
  pub lamp : HasParts 4 0 1 (value_in fs.items 3)

whole : (f : Framing) → eqb (framing_number f) 0 ≡ true → f ≡ Whole
whole Whole e = refl
whole Broken e = absurd (let z : ◌≡◌ {A = ℕ} 0 1 = cc in omega arith)

-- A lamp's bytes have a field, and no bytes have none.
lamp-some : (v : List ℕ) → 1 ≤ length v → field 6 v ∷ [] ≡ lamp_field v
lamp-some [] h = absurd (omega arith)
lamp-some (b ∷ v) h = refl

ends : (is : List Item) → ends_in_lamp is ≡ true → (drop 3 is ≡ lamp_field (value_in is 3)) × HasParts 4 0 1 (value_in is 3)
ends is = go (leb (length is) 3) refl
  where
    p : Bool
    p = has_parts 6 4 1 1 (item_in is 3)

    q : Bool
    q = leb (length is) 4

    go : (t : Bool) → leb (length is) 3 ≡ t → (t || (p && q)) ≡ true →
        (drop 3 is ≡ lamp_field (value_in is 3)) × HasParts 4 0 1 (value_in is 3)
    go true t e =
        let end = drop_of_length-le is (leb-true _ _ t) in
        let none : value_in is 3 ≡ [] = ap (λ (i : Item). i.value) (sym (item-at is 3) ∙ ap (λ (l : List Item). item_in l 0) end) in
        (end ∙ ap lamp_field (sym none), rw none (record { whole = refl; least = omega arith; most = omega arith }))
    go false t e =
        let (stands, parts) = part_at 3 6 4 1 1 is (omega arith) (and_left p q e) in
        let end = drop_of_length-le is (leb-true _ _ (and_right p q e)) in (
          stands ∙ ap (◌∷◌ (field 6 (value_in is 3))) end ∙ lamp-some (value_in is 3) (omega (arith, parts.least)),
          record { whole = parts.whole; least = omega arith; most = parts.most },
        )

pub well-formed : (fs : Fields) (n : ℕ) → form_of fs ≡ Some n → WellFormed fs n
unfolding form_of
well-formed fs n e = go (a && b && c && o && k) refl e
  where
    m : ℕ
    m = contacts_of fs.items

    a : Bool
    a = eqb (framing_number fs.framing) 0

    b : Bool
    b = eqb (contacts_number (contacts_in fs.items)) 0

    c : Bool
    c = has_parts 4 5 0 10602 (item_in fs.items 1)

    o : Bool
    o = has_parts 5 4 1 8 (item_in fs.items 2)

    k : Bool
    k = ends_in_lamp fs.items

    go : (t : Bool) → (a && b && c && o && k) ≡ t → cond t (Some m) None ≡ Some n → WellFormed fs n
    go true t e =
        let parted = and_left (a && b && c && o) k t in
        let first = and_left (a && b && c) o parted in
        let counted = and_left (a && b) c first in
        let (count, h) = counts fs.items (and_right a b counted) in
        let same : n ≡ m = cc in
        let is-count : n ≡ count = same ∙ ap (λ (is : List Item). contacts_of is) h.split in
        let (gates, some) = part_at 1 4 5 0 10602 fs.items (omega arith) (and_right (a && b) c first) in
        let (outputs, few) = part_at 2 5 4 1 8 fs.items (omega arith) (and_right (a && b && c) o parted) in
        let (end, lamp) = ends fs.items (and_right (a && b && c && o) k t) in
        record {
          whole = whole fs.framing (and_left a b counted);
          contacts = same;
          items = rw is-count (h.split ∙ ap (◌∷◌ (field 1 (count ∷ [])))
              (sym (ap (drop 1) h.split) ∙ gates ∙ ap (◌∷◌ (field 4 (value_in fs.items 1))) (outputs ∙ ap (◌∷◌ (field 5 (value_in fs.items 2))) end)));
          least = rw is-count h.low;
          most = rw is-count h.high;
          gates = some;
          pairs = few;
          lamp = lamp;
        }
    go false t e = absurd (let z : ◌≡◌ {A = ℕ} 0 1 = cc in omega arith)

-- What a yes to questions 11 and 12 says: the form, the gates', the outputs' and the lamp's lines.
pub record AcceptedNetlist (file : List ℕ) : Type 0 where
  pub formed : form_of (fields_of file) ≡ Some (netlist_of (fields_of file).items).contacts
  pub form : WellFormed (fields_of file) (netlist_of (fields_of file).items).contacts
  pub sound : is_sound (netlist_of (fields_of file).items).contacts (value_in (fields_of file).items 1) (value_in (fields_of file).items 2)
      (value_in (fields_of file).items 3) ≡ true
  pub bounds : Bounds (netlist_of (fields_of file).items)
  pub wired : Wired (netlist_of (fields_of file).items)
  pub shown : PairsWired (netlist_of (fields_of file).items)
  pub lit : LampWired (netlist_of (fields_of file).items)

passed : (file : List ℕ) → form_of (fields_of file) ≡ Some (contacts_of (fields_of file).items) →
    is_sound (contacts_of (fields_of file).items) (value_in (fields_of file).items 1) (value_in (fields_of file).items 2)
    (value_in (fields_of file).items 3) ≡ true →
    AcceptedNetlist file
unfolding netlist_of is_sound
passed file f s =
    let is = (fields_of file).items in
    let n = contacts_of is in
    let gs = value_in is 1 in
    let ps = value_in is 2 in
    let ls = value_in is 3 in
    let w = well-formed (fields_of file) n f in
    let g = length-gates gs in
    let p = length_pairs ps in
    let l = length_pairs ls in
    let lines = gate_line n + length gs / 5 in
    let a = are_gates (gate_line n) gs in
    let b = are_pairs lines ps in
    let c = are_pairs lines ls in
    let s' = and_left (a && b) c s in
    record {
      formed = f;
      form = w;
      sound = s;
      bounds = record {
        least = w.least;
        most = w.most;
        gates = omega (arith, w.gates.most);
        some = omega (arith, w.pairs.least);
        few = omega (arith, w.pairs.most);
        lamp = omega (arith, w.lamp.most);
      };
      wired = λ i d h. rw (get_or-gates gs i d (omega arith)) (gates-at (gate_line n) gs (and_left a b s') i (omega arith));
      shown = λ j d h. rw (get_or-pairs ps j d (omega arith), g) (pairs-at lines ps (and_right a b s') j (omega arith));
      lit = λ j d h. rw (get_or-pairs ls j d (omega arith), g) (pairs-at lines ls (and_right (a && b) c s) j (omega arith));
    }

pub accepted : (file : List ℕ) → netlist_refusal file ≡ 0 → AcceptedNetlist file
unfolding netlist_refusal first_no
accepted file = go (form_of (fields_of file)) (is_sound (contacts_of is) (value_in is 1) (value_in is 2) (value_in is 3)) refl refl
  where
    is : List Item
    is = (fields_of file).items

    go : (f : Option ℕ) (b : Bool) → form_of (fields_of file) ≡ f → is_sound (contacts_of is) (value_in is 1) (value_in is 2) (value_in is 3) ≡ b →
        first_no (form_number f ∷ wiring_number (cond b Sound Unsound) ∷ []) ≡ 0 → AcceptedNetlist file
    go (Some n) true f s e = passed file (f ∙ ap Some (well-formed (fields_of file) n f).contacts) s
    go (Some n) false f s e = absurd (omega arith)
    go None b f s e = absurd (omega arith)
