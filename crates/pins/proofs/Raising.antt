-- The second pin of an AND held at 1: its entry shows 1 wherever the left factor does.
use Prim.Native.Nat.{ℕ, ◌+◌, ◌<◌}
use native.Mathlib.Nat.{add_assoc}
use native.Mathlib.Omega.{arith}
use mathlib.Core.Path.{◌≡◌, refl, sym, ap, ◌∙◌, subst⁻¹}
use mathlib.Core.List.{List, [], ◌∷◌, append-nil}
use mathlib.Core.Logic.{⊎_elim}
use lib.ListN.{length, take, drop}
use Rattle.diagram.specs.declared.Diagram.{Diagram}
use Rattle.diagram.specs.Diagram.{width, root, Input, path, join}
use Rattle.diagram.proofs.Apart.{apart}
use Rattle.diagram.proofs.Inputs.{join-below, join-from}
use Rattle.diagram.proofs.Paths.{path-same, path-in}
use Rattle.diagram.proofs.Reached.{reached}
use Rattle.diagram.proofs.Unique.{Reduced}
use Rattle.netlist.specs.declared.Gate.{Gate}
use Rattle.rules.specs.declared.Entry.{Entry}
use Rattle.rules.specs.declared.Entry.TheVariants.{Never, Always, Line}
use Rattle.rules.specs.Make.{Make, return, ◌>>=◌}
use Rattle.rules.specs.Blocks.{Cut, one, two, size, cut, tree, or_tree, joined, Matrix, entry_at, level_entry, level_matrix, block}
use Rattle.rules.specs.Blocks.{term, lines_in, product_entry, product}
use Rattle.rules.proofs.BlockUp.{block_up}
use Rattle.rules.proofs.Cuts.{size-pos}
use Rattle.rules.proofs.Makes.{Each, each_left, each_right}
use Rattle.rules.proofs.Trees.{joined-up}
use Rattle.rules.proofs.Valuations.{Up, shows}
use Rattle.faults.proofs.Hits.{Hit, EachOf, no_hit, hit-append, hit-sequence, hit-table}
use Rattle.faults.proofs.Lifts.{after, top, last, parts, hit-parts, high-left, high-right}
use Rattle.faults.proofs.Live.{lit, dark, lit-down, dark-up, leads, misses}
use Rattle.faults.proofs.Positions.{line-of}
use Rattle.faults.proofs.Routes.{node_at, node-more}
use Rattle.faults.proofs.EntryHits.{term_at, terms, whole, entry-by}
use Rattle.faults.proofs.Shown.{High}

-- The gate of line y is an AND, and where the lines' values have H the line shows 1 wherever the gate's first source does.
abbrev pub Raises : ((ℕ → ℕ) → Type 0) → ℕ → ℕ → Gate → Type 0
Raises H y x g = x ≡ y → (g.kind ≡ 0) × ((ν : ℕ → ℕ) → H ν → ν g.left ≡ 1 → ν y ≡ 1)

module _ (H : (ℕ → ℕ) → Type 0) (y : ℕ) where
  -- No OR is an AND.
  tree-none : (c : Cut) (ls : List ℕ) (next : ℕ) → Hit y next (or_tree c ls next).0 → EachOf (or_tree c ls) next (Raises H y) → ⊥
  unfolding tree ◌>>=◌
  tree-none one ls next h e = no_hit h
  tree-none (two a b) ls next h e =
      let firsts = take (size a) ls in
      let rest = drop (size a) ls in
      let mid = next + length (or_tree a firsts next).0 in
      let later = each_right (or_tree a firsts next).0 _ e in
      ⊎_elim (λ h. tree-none a firsts next h (each_left (or_tree a firsts next).0 _ e))
      (λ h.
      ⊎_elim (λ h. tree-none b rest mid h (each_left (or_tree b rest mid).0 _ later))
      (λ h. let z = ((each_right (or_tree b rest mid).0 _ later).has 0 (omega arith) (omega arith)).0 in omega arith)
      (hit-append (or_tree b rest mid).0 _ h))
      (hit-append (or_tree a firsts next).0 _ h)

  or-none : (ls : List ℕ) (next : ℕ) → Hit y next (joined ls next).0 → EachOf (joined ls) next (Raises H y) → ⊥
  unfolding joined ◌>>=◌
  or-none [] next = λ h _. no_hit h
  or-none (x ∷ ls) next =
      let joins = or_tree (cut (length (x ∷ ls))) (x ∷ ls) next in
      subst⁻¹ (λ gates. Hit y next gates → Each (Raises H y) next gates → ⊥) (append-nil joins.0)
      (tree-none (cut (length (x ∷ ls))) (x ∷ ls) next)

  -- The AND of a term.
  and-gives : (e f : Entry) (next : ℕ) → EachOf (term e f) next (Raises H y) → Hit y next (term e f next).0 →
      ((term e f next).1 ≡ Line y) × (shows lit e ≡ 1) × (shows dark f ≡ 0) × ((ν : ℕ → ℕ) → H ν → shows ν e ≡ 1 → ν y ≡ 1)
  unfolding term ◌>>=◌
  and-gives Never f next e h = absurd (no_hit h)
  and-gives Always f next e h = absurd (no_hit h)
  and-gives (Line a) Never next e h = absurd (no_hit h)
  and-gives (Line a) Always next e h = absurd (no_hit h)
  and-gives (Line a) (Line b) next e h = (ap Line (omega arith), refl, refl, (e.has 0 (omega arith) (omega arith)).1)

  -- Entry e at (u, v) of a product shows 1 wherever the left factor at some node does, whose right factor is not always.
  pub record EntryGives (middle : ℕ) (left right : Matrix) (u v : ℕ) (each : (ℕ → Gate → Type 0) → Type 0) (e : Entry) : Type 0 where
    pub node : ℕ
    pub inside : node < middle
    pub live : shows lit (entry_at left u node) ≡ 1
    pub unsure : shows dark (entry_at right node v) ≡ 0
    pub high : (ν : ℕ → ℕ) → each (Up ν) → H ν → shows ν (entry_at left u node) ≡ 1 → shows ν e ≡ 1

  module _ (middle : ℕ) (left right : Matrix) (u v next : ℕ) where
    abbrev ts : Make (List Entry)
    ts = terms middle left right u v

    abbrev all : Make Entry
    all = whole middle left right u v

    whole-gives : EachOf all next (Raises H y) → Hit y next (all next).0 → EntryGives middle left right u v (EachOf all next) (all next).1
    unfolding ◌>>=◌
    whole-gives raises h =
        ⊎_elim
        (λ h.
        let (w, _, hw, part) = hit-sequence Never (term_at middle left right u v) middle 0 next h in
        let r = part w (omega arith) in
        let each = r.each (each_left (ts next).0 _ raises) in
        let (line, live, unsure, gives) = and-gives (entry_at left u w) (entry_at right w v) r.start each r.hit in
        let (p, hp, q) = line-of (ts next).1 w y (r.made ∙ line) in
        record {
          node = w;
          inside = omega arith;
          live = live;
          unsure = unsure;
          high = λ ν ups o s.
              (joined-up ν (lines_in (ts next).1)).result (next + length (ts next).0) (each_right (ts next).0 _ ups)
              (p, hp, rw q (gives ν o s));
        })
        (λ h. absurd (or-none (lines_in (ts next).1) _ h (each_right (ts next).0 _ raises)))
        (hit-append (ts next).0 _ h)

    entry_gives : EachOf (product_entry middle left right u v) next (Raises H y) → Hit y next (product_entry middle left right u v next).0 →
        EntryGives middle left right u v (EachOf (product_entry middle left right u v) next) (product_entry middle left right u v next).1
    entry_gives =
        entry-by middle left right u v
        (λ m. EachOf m next (Raises H y) → Hit y next (m next).0 → EntryGives middle left right u v (EachOf m next) (m next).1)
        (λ _ h. absurd (no_hit h)) whole-gives

  pub product-gives : (rows middle columns : ℕ) (left right : Matrix) (next : ℕ) →
      EachOf (product rows middle columns left right) next (Raises H y) → Hit y next (product rows middle columns left right next).0 →
      (u v : ℕ) × (u < rows) × (v < columns)
      × EntryGives middle left right u v (EachOf (product rows middle columns left right) next)
      (entry_at (product rows middle columns left right next).1 u v)
  unfolding product
  product-gives rows middle columns left right next raises h =
      let (u, v, hu, hv, part) = hit-table Never (product_entry middle left right) rows columns next h in
      let k = entry_gives middle left right u v part.start (part.each raises) part.hit in (
        u,
        v,
        hu,
        hv,
        rw part.made (record {
          node = k.node;
          inside = k.inside;
          live = k.live;
          unsure = k.unsure;
          high = λ ν ups. k.high ν (part.each ups);
        }),
      )

module _ (d : Diagram) (reduced : Reduced d) where
  -- An input that leads from some output to u, and then through the levels as s, t and z do.
  module _ (l u k m left : ℕ) (total : l + k + m + left ≡ d.contacts) (above : l < d.contacts) (hu : u < width d l) (s t z : Input) where
    record Trip : Type 0 where
      output : ℕ
      named : output < d.outputs
      input : Input
      to : node_at d input output l ≡ u
      first : (v : ℕ) → path d input k l v ≡ path d s k l v
      second : (v : ℕ) → path d input m (l + k) v ≡ path d t m (l + k) v
      third : (v : ℕ) → path d input left (l + k + m) v ≡ path d z left (l + k + m) v

    trip : Trip
    trip =
        let (j, hj, x, leads) = reached d reduced.counted l above u hu in
        let end = join (l + k + m) t z in
        let rest = join (l + k) s end in
        let all = join l x rest in
        record {
          output = j;
          named = hj;
          input = all;
          to = path-same d all x l 0 (root d j) (λ i _ a. join-below l x rest i (omega arith)) ∙ leads;
          first = λ v. path-same d all s k l v (λ i a b. join-from l x rest i a ∙ join-below (l + k) s end i b);
          second = λ v.
              path-same d all t m (l + k) v (λ i a b.
              join-from l x rest i (omega arith) ∙ join-from (l + k) s end i a ∙ join-below (l + k + m) t z i b);
          third = λ v.
              path-same d all z left (l + k + m) v (λ i a b.
              join-from l x rest i (omega arith) ∙ join-from (l + k) s end i (omega arith) ∙ join-from (l + k + m) t z i a);
        }

    trip-end : (r : Trip) → node_at d r.input r.output d.contacts ≡ path d z left (l + k + m) (path d t m (l + k) (path d s k l u))
    trip-end r =
        let x = r.input in
        let j = r.output in
        ap (node_at d x j) (sym total)
        ∙ sym (node-more d x j left (l + k + m))
        ∙ ap (path d x left (l + k + m))
        (sym (node-more d x j m (l + k))
        ∙ ap (path d x m (l + k)) (sym (node-more d x j k l) ∙ ap (path d x k l) r.to ∙ r.first u)
        ∙ r.second _)
        ∙ r.third _

  module _ (H : (ℕ → ℕ) → Type 0) (y : ℕ) where
    -- A gate of the product: take a path through its middle node that misses the entry.
    own-high : (a b : Cut) (left l next : ℕ) → l + size a + size b + left ≡ d.contacts →
        EachOf (last d a b l next) (top d a b l next) (Raises H y) → Hit y (top d a b l next) (last d a b l next (top d a b l next)).0 →
        High d H (two a b) left l next
    unfolding block ◌>>=◌
    own-high a b left l next total raises h =
        let (u, v, hu, hv, k) = product-gives H y _ _ _ _ _ (top d a b l next) raises h in
        let w = k.node in
        let hw = k.inside in
        let (s, p) = (leads d a l).result next (lit-down next _) u w hu hw k.live in
        ⊎_elim (λ always. absurd (omega (arith, k.unsure)))
        (λ (t, ne).
        let v' = path d t (size b) (l + size a) w in
        let hv' = path-in d reduced.ranged t (size b) (l + size a) w (omega arith) hw in
        let (z, told) = apart d reduced.ranged reduced.differing left (l + size a + size b) v v' total hv hv' (λ q. ne (sym q)) in
        let above : l < d.contacts = omega (arith, size-pos a) in
        let r = trip l u (size a) (size b) left total above hu s t z in
        let end = trip-end l u (size a) (size b) left total above hu s t z r
        ∙ ap (λ (q : ℕ). path d z left (l + size a + size b) (path d t (size b) (l + size a) q)) p in
        rw (← add_assoc l (size a) (size b)) (
          r.output,
          r.named,
          r.input,
          v,
          hv,
          (λ q. told (sym (r.third v) ∙ q ∙ end)),
          λ ν rails each o.
              let (ea, _, ec) = parts d a b l next each in
              let up = (block_up d reduced.ranged r.input ν rails a l (omega arith)).result next ea u hu in
              rw r.to (k.high ν ec o (rw (r.first u ∙ p) at up)),
        ))
        ((misses d reduced b left (l + size a) (omega arith)).result (after d a l next) (dark-up _ _) w v hw hv)

    pub gate-high : (c : Cut) (left l next : ℕ) → l + size c + left ≡ d.contacts → EachOf (block d c l) next (Raises H y) →
        Hit y next (block d c l next).0 → High d H c left l next
    unfolding block level_matrix
    gate-high one left l next total raises h =
        let (_, _, _, _, part) = hit-table Never (λ u v. return (level_entry d l u v)) _ _ next h in absurd (no_hit part.hit)
    gate-high (two a b) left l next total raises h =
        let (ra, rb, rc) = parts d a b l next raises in
        ⊎_elim
        (λ h. high-left d reduced.ranged a b left l next total H (gate-high a (size b + left) l next (omega arith) ra h))
        (⊎_elim
        (λ h. high-right d reduced.ranged a b left l next total H (gate-high b left (l + size a) (after d a l next) (omega arith) rb h))
        (own-high a b left l next (omega arith) rc))
        (hit-parts d a b l next h)
