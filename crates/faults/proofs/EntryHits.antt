-- A fault among the gates of a product: a line that shows 1 makes an entry show 1, and a fault at 0 keeps one middle node from an entry.
use Prim.Native.Nat.{ℕ, ◌+◌, ◌<◌}
use native.Mathlib.Omega.{arith}
use mathlib.Core.Path.{◌≡◌, refl, sym, ap, ◌∙◌}
use mathlib.Core.Bool.{Bool, true, false}
use mathlib.Core.List.{List, [], ◌∷◌}
use mathlib.Core.Logic.{⊎_elim}
use lib.ListN.{length, get_or, take}
use Rattle.fields.specs.Bounded.{any}
use Rattle.netlist.specs.declared.Gate.{Gate}
use Rattle.rules.specs.declared.Entry.{Entry}
use Rattle.rules.specs.declared.Entry.TheVariants.{Never, Always, Line}
use Rattle.rules.specs.Make.{Make, return, ◌>>=◌, sequence}
use Rattle.rules.specs.Blocks.{Matrix, entry_at, term, lines_in, joined, product_entry, product}
use Rattle.rules.proofs.Makes.{each_left, each_right, ok-sequence}
use Rattle.rules.proofs.Valuations.{Down, Up, shows}
use Rattle.rules.proofs.Terms.{term-down}
use Rattle.rules.proofs.Products.{sure, entry-always, entry-joined}
use Rattle.faults.proofs.Live.{lit, dark, lit-down}
use Rattle.faults.proofs.Hits.{Hit, EachOf, no_hit, hit-append, hit-sequence, hit-table}
use Rattle.faults.proofs.Positions.{term_of, line-of}
use Rattle.faults.proofs.TreeHits.{Cuts, JoinedHit, or-hit, term-hit}

-- Line y is a gate of entry e, at (u, v) of a product; e is not always. A fault at 0 there keeps a middle node, whose factors are not
-- never, from e: if e shows 1, it does by another node. That each gate has P is each P.
pub record EntryHit (H : (ℕ → ℕ) → Type 0) (y middle : ℕ) (left right : Matrix) (u v : ℕ) (each : (ℕ → Gate → Type 0) → Type 0)
    (e : Entry) : Type 0 where
  pub unsure : shows dark e ≡ 0
  pub high : (ν : ℕ → ℕ) → each (Up ν) → ν y ≡ 1 → shows ν e ≡ 1
  pub kept : ℕ
  pub inside : kept < middle
  pub live : (shows lit (entry_at left u kept) ≡ 1) × (shows lit (entry_at right kept v) ≡ 1)
  pub low : (ν : ℕ → ℕ) → each (Down ν) → H ν → shows ν e ≡ 1 →
      (w : ℕ) × (w < middle) × (w ≡ kept → ⊥) × (shows ν (entry_at left u w) ≡ 1) × (shows ν (entry_at right w v) ≡ 1)

joined-unsure : (ls : List ℕ) (next : ℕ) → shows dark (joined ls next).1 ≡ 0
unfolding joined ◌>>=◌
joined-unsure [] next = refl
joined-unsure (x ∷ ls) next = refl

-- The gate of a term is its result, and an AND.
and-hit : (H : (ℕ → ℕ) → Type 0) (y : ℕ) (e f : Entry) (next : ℕ) → EachOf (term e f) next (Cuts H y) → Hit y next (term e f next).0 →
    ((term e f next).1 ≡ Line y) × ((ν : ℕ → ℕ) → H ν → ν y ≡ 1 → ⊥)
unfolding term ◌>>=◌
and-hit H y Never f next cuts h = absurd (no_hit h)
and-hit H y Always f next cuts h = absurd (no_hit h)
and-hit H y (Line a) Never next cuts h = absurd (no_hit h)
and-hit H y (Line a) Always next cuts h = absurd (no_hit h)
and-hit H y (Line a) (Line b) next cuts h =
    let (_, cut) = cuts.has 0 (omega arith) (omega arith) in
    (ap Line (omega arith), λ ν o s. (cut ν o s).0 refl)

module _ (middle : ℕ) (left right : Matrix) (u v : ℕ) where
  abbrev pub term_at : ℕ → Make Entry
  term_at w = term (entry_at left u w) (entry_at right w v)

  abbrev pub terms : Make (List Entry)
  terms = sequence term_at middle 0

  abbrev pub whole : Make Entry
  whole = terms >>= λ ts. joined (lines_in ts)

  -- An entry is always, with no gate, or what its terms are joined to.
  pub entry-by : (P : Make Entry → Type 0) → P (return Always) → P whole → P (product_entry middle left right u v)
  entry-by P always joins = go (any middle (sure left right u v)) refl
    where
      go : (b : Bool) → any middle (sure left right u v) ≡ b → P (product_entry middle left right u v)
      go true e = rw (entry-always middle left right u v e) always
      go false e = rw (entry-joined middle left right u v e) joins

  -- A term that shows 1 has factors that do.
  factors : (ν : ℕ → ℕ) (next : ℕ) → EachOf terms next (Down ν) → (w : ℕ) → w < length (terms next).1 →
      shows ν (get_or (terms next).1 w Never) ≡ 1 →
      (w < middle) × (shows ν (entry_at left u w) ≡ 1) × (shows ν (entry_at right w v) ≡ 1)
  factors ν next e w h s =
      let made = (ok-sequence Never term_at middle 0 (λ w _ _. term-down ν (entry_at left u w) (entry_at right w v))).result next e in
      let (a, b) = made.at w w (omega (arith, made.size)) (omega arith) s in
      (omega (arith, made.size), a, b)

  module _ (H : (ℕ → ℕ) → Type 0) (y next : ℕ) where
    joined-hit : EachOf whole next (Cuts H y) → Hit y next (whole next).0 →
        JoinedHit H y (lines_in (terms next).1) (next + length (terms next).0)
    unfolding ◌>>=◌
    joined-hit cuts h =
        ⊎_elim
        (λ h.
        let (w, _, _, part) = hit-sequence Never term_at middle 0 next h in
        let r = part w (omega arith) in
        let each = r.each (each_left (terms next).0 _ cuts) in
        let (gate, dead) = and-hit H y (entry_at left u w) (entry_at right w v) r.start each r.hit in
        let (p, hp, q) = line-of (terms next).1 w y (r.made ∙ gate) in
        term-hit H y (lines_in (terms next).1) _ p hp q dead)
        (or-hit H y (lines_in (terms next).1) _ (each_right (terms next).0 _ cuts))
        (hit-append (terms next).0 _ h)

    whole-hit : JoinedHit H y (lines_in (terms next).1) (next + length (terms next).0) →
        EntryHit H y middle left right u v (EachOf whole next) (whole next).1
    unfolding ◌>>=◌
    whole-hit j =
        let ts = (terms next).1 in
        let t = term_of ts j.kept j.inside in
        let (inside, a, b) = factors lit next (lit-down next _) t.at t.inside (rw t.line refl) in
        record {
          unsure = joined-unsure (lines_in ts) _;
          high = λ ν ups. j.high ν (each_right (terms next).0 _ ups);
          kept = t.at;
          inside = inside;
          live = (a, b);
          low = λ ν downs o r.
              let (i, hi, ne, q) = j.low ν (each_right (terms next).0 _ downs) o r in
              let t' = term_of ts i hi in
              let (h, a, b) = factors ν next (each_left (terms next).0 _ downs) t'.at t'.inside (rw t'.line q) in
              (t'.at, h, λ p. ne (sym t'.before ∙ ap (λ w. length (lines_in (take w ts))) p ∙ t.before), a, b);
        }

    entry-hit : EachOf (product_entry middle left right u v) next (Cuts H y) → Hit y next (product_entry middle left right u v next).0 →
        EntryHit H y middle left right u v (EachOf (product_entry middle left right u v) next)
        (product_entry middle left right u v next).1
    entry-hit =
        entry-by
        (λ m. EachOf m next (Cuts H y) → Hit y next (m next).0 → EntryHit H y middle left right u v (EachOf m next) (m next).1)
        (λ _ h. absurd (no_hit h)) (λ cuts h. whole-hit (joined-hit cuts h))

pub product-hit : (H : (ℕ → ℕ) → Type 0) (y rows middle columns : ℕ) (left right : Matrix) (next : ℕ) →
    EachOf (product rows middle columns left right) next (Cuts H y) → Hit y next (product rows middle columns left right next).0 →
    (u v : ℕ) × (u < rows) × (v < columns)
    × EntryHit H y middle left right u v (EachOf (product rows middle columns left right) next)
    (entry_at (product rows middle columns left right next).1 u v)
unfolding product
product-hit H y rows middle columns left right next cuts h =
    let (u, v, hu, hv, part) = hit-table Never (product_entry middle left right) rows columns next h in
    let hit = entry-hit middle left right u v H y part.start (part.each cuts) part.hit in (
      u,
      v,
      hu,
      hv,
      rw part.made (record {
        unsure = hit.unsure;
        high = λ ν ups. hit.high ν (part.each ups);
        kept = hit.kept;
        inside = hit.inside;
        live = hit.live;
        low = λ ν downs. hit.low ν (part.each downs);
      }),
    )
