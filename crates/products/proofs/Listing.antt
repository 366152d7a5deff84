-- The middle nodes of a row that are listed: terms of the others are never, so they make no gate and are no lines.
use Prim.Native.Nat.{ℕ, suc, ◌+◌, ◌≤◌, ◌<◌}
use native.Mathlib.Numerals.{add-one}
use native.Mathlib.Omega.{arith}
use mathlib.Core.Path.{◌≡◌, refl, sym, ap, ◌∙◌}
use mathlib.Core.Bool.{Bool, true, false, or-false}
use mathlib.Core.List.{List, [], ◌∷◌, ◌++◌, append-nil}
use lib.ListN.{length, length-append, get_or, drop}
use lib.Seq.{drop-length, drop-cons}
use Rattle.fields.specs.Bounded.{any}
use Rattle.fields.proofs.Bounded.{any_at}
use Rattle.rules.specs.declared.Entry.TheVariants.{Never, Always, Line}
use Rattle.rules.specs.Blocks.{Matrix, entry_at, is_always, term}
use Rattle.gates.specs.declared.gate.Gates.{Gates}
use Rattle.products.specs.Inner.Terms.{any_always, Listed, ended, dropped, taken}
use Rattle.gates.proofs.Writing.{written-return}
use Rattle.products.proofs.Terms.{Turned, turned_more}

-- What is found of a row's factors: the middle nodes before w are listed, and `some` says whether a factor there is always.
pub record Found (left : Matrix) (u w : ℕ) (nodes : List ℕ) (some : Bool) : Type 0 where
  pub few : length nodes ≤ w
  pub listed : Listed left u w 0 nodes
  pub always : some ≡ any_always w left u

-- A list grows by the next middle node, or stays where its factor is never.
module _ {left : Matrix} {u w : ℕ} where
  list-kept : {from : ℕ} {nodes : List ℕ} → entry_at left u w ≡ Never → Listed left u w from nodes →
      Listed left u (w + 1) from nodes
  list-kept e (ended {w = k} h) = dropped {w = k} (omega arith) (rw h e) (ended {w = suc k} (omega arith))
  list-kept e (dropped {w = k} h n l) = dropped {w = k} (omega arith) n (list-kept e l)
  list-kept e (taken {w = k} h n l) = taken {w = k} (omega arith) n (list-kept e l)

  list-longer : {from : ℕ} {nodes : List ℕ} → Listed left u w from nodes → Listed left u (w + 1) from (nodes ++ (w ∷ []))
  list-longer (ended {w = k} h) = taken {w = k} (omega arith) (sym h) (ended {w = suc k} (omega arith))
  list-longer (dropped {w = k} h n l) = dropped {w = k} (omega arith) n (list-longer l)
  list-longer (taken {w = k} h n l) = taken {w = k} (omega arith) n (list-longer l)

-- One factor more is found.
module _ {left : Matrix} {u : ℕ} where
  pub found_none : Found left u 0 [] false
  unfolding any
  found_none = record { few = omega arith; listed = ended refl; always = refl }

  module _ {w : ℕ} {nodes : List ℕ} {some : Bool} (f : Found left u w nodes some) where
    pub found_never : entry_at left u w ≡ Never → Found left u (w + 1) nodes some
    unfolding any
    found_never e =
        let few = f.few in
        record { few = omega arith; listed = list-kept e f.listed; always = rw (add-one w, e) (f.always ∙ sym (or-false _)) }

    module _ {later : List ℕ} (added : later ≡ nodes ++ (w ∷ [])) where
      longer : length later ≤ w + 1
      longer =
          let few = f.few in
          let size = ap length added in
          let both = length-append nodes (w ∷ []) in
          omega arith

      pub found_always : entry_at left u w ≡ Always → Found left u (w + 1) later true
      found_always e =
          record {
            few = longer;
            listed = rw added (list-longer f.listed);
            always = sym (any_at _ (w + 1) w (omega arith) (ap is_always e));
          }

      pub found_line : {x : ℕ} → entry_at left u w ≡ Line x → Found left u (w + 1) later some
      unfolding any
      found_line e =
          record { few = longer; listed = rw added (list-longer f.listed); always = rw (add-one w, e) (f.always ∙ sym (or-false _)) }

-- What holds once the terms of the listed nodes before these are made.
pub record PassedNodes (left right : Matrix) (u v middle : ℕ) (nodes : List ℕ) (g h : Gates) (lines : List ℕ) : Type 0 where
  pub w : ℕ
  pub rest : Listed left u middle w nodes
  pub turned : Turned left right u v w g h lines

-- What holds when the next of the listed nodes is x.
pub record Next (left right : Matrix) (u v middle x : ℕ) (nodes : List ℕ) (g h : Gates) (lines : List ℕ) : Type 0 where
  pub below : x < middle
  pub rest : Listed left u middle (suc x) nodes
  pub turned : Turned left right u v x g h lines

turned-never : {left right : Matrix} {u v w : ℕ} {g h : Gates} {lines : List ℕ} → entry_at left u w ≡ Never →
    Turned left right u v w g h lines → Turned left right u v (suc w) g h lines
unfolding term
turned-never {left} {right} {u} {v} {w} {lines = lines} e t =
    rw (← add-one w) (turned_more left right u v {e = Never} t (rw e (written-return Never)) (sym (append-nil lines)))

module _ {left right : Matrix} {u v middle : ℕ} {g h : Gates} {lines : List ℕ} where
  find-next : {w x : ℕ} {nodes : List ℕ} → Listed left u middle w (x ∷ nodes) → Turned left right u v w g h lines →
      Next left right u v middle x nodes g h lines
  find-next (dropped h e l) t = find-next l (turned-never e t)
  find-next (taken h e l) t = record { below = rw e h; rest = rw e l; turned = rw e t }

  find-last : {w : ℕ} → Listed left u middle w [] → Turned left right u v w g h lines → Turned left right u v middle g h lines
  find-last (ended e) t = rw e at t
  find-last (dropped h e l) t = find-last l (turned-never e t)

  pub passed-next : (i : ℕ) (nodes : List ℕ) → i < length nodes → PassedNodes left right u v middle (drop i nodes) g h lines →
      Next left right u v middle (get_or nodes i 0) (drop (i + 1) nodes) g h lines
  passed-next i nodes h p = rw (add-one i) (find-next (rw (drop-cons nodes i 0 h) at p.rest) p.turned)

  pub passed-last : (i : ℕ) (nodes : List ℕ) → i ≡ length nodes → PassedNodes left right u v middle (drop i nodes) g h lines →
      Turned left right u v middle g h lines
  passed-last i nodes h p = find-last (rw (h, drop-length nodes) at p.rest) p.turned
