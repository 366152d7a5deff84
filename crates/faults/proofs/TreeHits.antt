-- A fault among the terms of an OR tree or its gates: a line that shows 1 makes the tree show 1, and a fault at 0 keeps at least one term
-- from the tree.
use Prim.Native.Nat.{ℕ, ◌+◌, ◌<◌}
use native.Mathlib.Nat.{add-zero}
use native.Mathlib.Omega.{arith}
use mathlib.Core.Path.{◌≡◌, subst⁻¹}
use mathlib.Core.Bool.{Bool, true, false, cond}
use mathlib.Core.List.{List, [], ◌∷◌, append-nil}
use mathlib.Core.Logic.{inl, inr, ⊎_elim}
use lib.ListN.{length, get_or, take, drop}
use lib.Seq.{get_or-take, get_or-drop}
use Rattle.netlist.specs.declared.Gate.{Gate}
use Rattle.rules.specs.declared.Entry.{Entry}
use Rattle.rules.specs.declared.Entry.TheVariants.{Line}
use Rattle.rules.specs.Make.{◌>>=◌}
use Rattle.rules.specs.Blocks.{Cut, one, two, size, cut, tree, or_tree, joined}
use Rattle.rules.proofs.Makes.{Each, each_left, each_right}
use Rattle.rules.proofs.Valuations.{Down, Up, shows}
use Rattle.rules.proofs.Cuts.{size-pos, size-cut}
use Rattle.rules.proofs.Trees.{tree-down, joined-down, joined-up}
use Rattle.faults.proofs.Hits.{Hit, EachOf, no_hit, hit-append}

-- The source of a gate's other pin than its first, or than its second.
abbrev pub other_pin : Bool → Gate → ℕ
other_pin first g = cond first g.right g.left

-- A fault at 0 of gate g at line y, where the lines' values have H: the line shows 1 only by one of its two pins, and only if the gate is
-- an OR. So it is if the line shows 0 or one of the pins has 0.
abbrev pub Cuts : ((ℕ → ℕ) → Type 0) → ℕ → ℕ → Gate → Type 0
Cuts H y x g = x ≡ y → (first : Bool) × ((ν : ℕ → ℕ) → H ν → ν y ≡ 1 → (g.kind ≡ 0 → ⊥) × (ν (other_pin first g) ≡ 1))

pub line-cuts : (y next : ℕ) (gates : List Gate) → Each (Cuts (λ ν. ν y ≡ 0) y) next gates
line-cuts y next gates = record { has = λ i l e. (true, λ ν o p. absurd (omega arith)) }

-- Line y is among the first lines of a list or among the gates that join them to entry e. A fault at 0 there keeps the line at one
-- position from e: if e shows 1, so does a line at another position. That each gate has P is each P.
pub record OrHit (H : (ℕ → ℕ) → Type 0) (y count : ℕ) (ls : List ℕ) (each : (ℕ → Gate → Type 0) → Type 0) (e : Entry) : Type 0 where
  pub high : (ν : ℕ → ℕ) → each (Up ν) → ν y ≡ 1 → shows ν e ≡ 1
  pub kept : ℕ
  pub inside : kept < count
  pub low : (ν : ℕ → ℕ) → each (Down ν) → H ν → shows ν e ≡ 1 →
      (i : ℕ) × (i < count) × (i ≡ kept → ⊥) × (ν (get_or ls i 0) ≡ 1)

module _ (H : (ℕ → ℕ) → Type 0) (y : ℕ) where
  abbrev TreeHit : Cut → List ℕ → ℕ → Type 0
  TreeHit c ls next = OrHit H y (size c) ls (EachOf (or_tree c ls) next) (Line (or_tree c ls next).1)

  tree-hit : (c : Cut) (ls : List ℕ) (next : ℕ) → EachOf (or_tree c ls) next (Cuts H y) → Hit y next (or_tree c ls next).0 →
      TreeHit c ls next
  unfolding tree ◌>>=◌
  tree-hit one ls next cuts h = absurd (no_hit h)
  tree-hit (two a b) ls next cuts h =
      let (ca, cb, co) = parts cuts in
      ⊎_elim (λ h. in-first (tree-hit a firsts next ca h))
      (λ h.
      ⊎_elim (λ h. in_rest (tree-hit b rest mid cb h)) (λ h. let e : top ≡ y = omega arith in in-or e (co e))
      (hit-append (or_tree b rest mid).0 _ h))
      (hit-append (or_tree a firsts next).0 _ h)
    where
      firsts : List ℕ
      firsts = take (size a) ls

      rest : List ℕ
      rest = drop (size a) ls

      mid : ℕ
      mid = next + length (or_tree a firsts next).0

      top : ℕ
      top = mid + length (or_tree b rest mid).0

      or : Gate
      or = record { kind = 1; left = (or_tree a firsts next).1; right = (or_tree b rest mid).1 }

      -- The gates of the two parts, and the OR.
      parts : {P : ℕ → Gate → Type 0} → EachOf (or_tree (two a b) ls) next P →
          EachOf (or_tree a firsts) next P × EachOf (or_tree b rest) mid P × P top or
      parts e =
          let later = each_right (or_tree a firsts next).0 _ e in (
            each_left (or_tree a firsts next).0 _ e,
            each_left (or_tree b rest mid).0 _ later,
            rw (add-zero top) at ((each_right (or_tree b rest mid).0 _ later).has 0 (omega arith)),
          )

      in-first : TreeHit a firsts next → TreeHit (two a b) ls next
      in-first t =
          record {
            high = λ ν e s. let (ea, _, up) = parts e in up (inl (t.high ν ea s));
            kept = t.kept;
            inside = omega (arith, t.inside);
            low = λ ν e s r.
                let (ea, eb, down) = parts e in
                ⊎_elim
                (λ r. let (i, h, ne, q) = t.low ν ea s r in (i, omega arith, ne, rw (get_or-take (size a) ls i 0 h) at q))
                (λ r.
                let (i, h, q) = (tree-down ν b rest).result mid eb r in
                (size a + i, omega arith, λ p. omega (arith, t.inside), rw (get_or-drop (size a) ls i 0) at q))
                (down r);
          }

      in_rest : TreeHit b rest mid → TreeHit (two a b) ls next
      in_rest t =
          record {
            high = λ ν e s. let (_, eb, up) = parts e in up (inr (t.high ν eb s));
            kept = size a + t.kept;
            inside = omega (arith, t.inside);
            low = λ ν e s r.
                let (ea, eb, down) = parts e in
                ⊎_elim
                (λ r.
                let (i, h, q) = (tree-down ν a firsts).result next ea r in
                (i, omega arith, λ p. omega arith, rw (get_or-take (size a) ls i 0 h) at q))
                (λ r.
                let (i, h, ne, q) = t.low ν eb s r in
                (size a + i, omega arith, λ p. ne (omega arith), rw (get_or-drop (size a) ls i 0) at q))
                (down r);
          }

      -- The OR itself: a fault at 0 keeps the terms of one of its two parts.
      in-or : top ≡ y → (first : Bool) × ((ν : ℕ → ℕ) → H ν → ν y ≡ 1 → (or.kind ≡ 0 → ⊥) × (ν (other_pin first or) ≡ 1)) →
          TreeHit (two a b) ls next
      in-or e (true, cut) =
          record {
            high = λ ν _ s. rw e s;
            kept = 0;
            inside = omega (arith, size-pos a);
            low = λ ν each o r.
                let (i, l, q) = (tree-down ν b rest).result mid (parts each).1 (cut ν o (rw e at r)).1 in
                (size a + i, omega arith, λ p. omega (arith, size-pos a), rw (get_or-drop (size a) ls i 0) at q);
          }
      in-or e (false, cut) =
          record {
            high = λ ν _ s. rw e s;
            kept = size a;
            inside = omega (arith, size-pos b);
            low = λ ν each o r.
                let (i, l, q) = (tree-down ν a firsts).result next (parts each).0 (cut ν o (rw e at r)).1 in
                (i, omega arith, λ p. omega arith, rw (get_or-take (size a) ls i 0 l) at q);
          }

  abbrev pub JoinedHit : List ℕ → ℕ → Type 0
  JoinedHit ls next = OrHit H y (length ls) ls (EachOf (joined ls) next) (joined ls next).1

  -- One of the ORs.
  pub or-hit : (ls : List ℕ) (next : ℕ) → EachOf (joined ls) next (Cuts H y) → Hit y next (joined ls next).0 → JoinedHit ls next
  unfolding joined ◌>>=◌
  or-hit [] next = λ _ h. absurd (no_hit h)
  or-hit (x ∷ ls) next =
      let joins = or_tree (cut (length (x ∷ ls))) (x ∷ ls) next in
      subst⁻¹
      (λ gates.
      Each (Cuts H y) next gates → Hit y next gates → OrHit H y (length (x ∷ ls)) (x ∷ ls) (λ P. Each P next gates) (Line joins.1))
      (append-nil joins.0)
      (rw (size-cut (length (x ∷ ls)) (omega arith)) at (tree-hit (cut (length (x ∷ ls))) (x ∷ ls) next))

  -- One of the terms, which a fault at 0 keeps from showing 1.
  pub term-hit : (ls : List ℕ) (next p : ℕ) → p < length ls → get_or ls p 0 ≡ y → ((ν : ℕ → ℕ) → H ν → ν y ≡ 1 → ⊥) → JoinedHit ls next
  term-hit ls next p h e dead =
      record {
        high = λ ν ups s. (joined-up ν ls).result next ups (p, h, rw e s);
        kept = p;
        inside = h;
        low = λ ν downs o r.
            let (i, hi, q) = (joined-down ν ls).result next downs r in
            (i, hi, λ same. dead ν o (rw (same, e) at q), q);
      }
