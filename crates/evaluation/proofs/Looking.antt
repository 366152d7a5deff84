-- Holds by their ranks: what a site has is said by the hold of its rank, if there is one.
use native.Mathlib.Decide.{ℕ_discrete, dec_lt}
use native.Mathlib.Nat.{eq-or-lt_of_le}
use native.Mathlib.Omega.{arith}
use Prim.Native.Nat.{ℕ, zero, suc, ◌+◌, ◌*◌, ◌/◌, ◌≤◌, ◌<◌}
use mathlib.Core.Path.{◌≡◌, refl, sym, ap, ◌∙◌}
use mathlib.Core.Bool.{Bool, true, ◌&&◌, cond}
use mathlib.Core.List.{List}
use mathlib.Core.Logic.{⊎_elim, by_cases}
use borrow.Author.Tests.{eq-eqb, ne_eqb, lt-ltb, le-ltb}
use lib.Dec.{eqb}
use lib.ListN.{length}
use Rattle.std.specs.Prelude.{Some, None}
use Rattle.fields.specs.Bounded.{listed}
use Rattle.netlist.specs.declared.Hold.{Hold}
use Rattle.netlist.specs.Netlist.{hold_at, holds_of, site_of, level_of}
use Rattle.drive.specs.Questions.{rank_of, are_holds}
use Rattle.drive.proofs.Tests.{rank-line, rank-pin, holds_at}
use Rattle.simulation.specs.Run.{held}
use Rattle.evaluation.specs.Inner.Walk.{site_rank, rank_at, IsNext, Sorted, Behind, Ahead, Looks}
use Rattle.evaluation.specs.declared.board.Board.{Board}
use Rattle.evaluation.specs.declared.ranks.Next.{Next}

-- A hold's rank tells its line and site.
rank-tells : (h : Hold) (line site : ℕ) → h.value ≤ 5 → h.line < 65536 → line < 65536 → site ≤ 2 → rank_of h ≡ site_rank line site →
    (h.line ≡ line) × (site_of h ≡ site)
rank-tells h line zero v l k s e =
    by_cases (dec_lt 1 h.value) (λ p. let r = rank-pin h p in absurd (omega arith)) (λ p. let r = rank-line h (omega arith) in (omega arith, omega arith))
rank-tells h line (suc site) v l k s e =
    let f : rank_of h ≡ 65536 + 2 * line + suc site = e ∙ ap (λ (b : Bool). cond b line (65536 + 2 * line + suc site)) (ne_eqb (suc site) 0 (λ z. omega arith)) in
    by_cases (dec_lt 1 h.value) (λ p. let r = rank-pin h p in (omega arith, omega arith)) (λ p. let r = rank-line h (omega arith) in absurd (omega arith))

site-tells : (h : Hold) (line site : ℕ) → h.line ≡ line → site_of h ≡ site → rank_of h ≡ site_rank line site
site-tells h line zero e f = rank-line h (omega arith) ∙ e
site-tells h line (suc site) e f =
    rank-pin h (omega arith) ∙ (let z : 65536 + 2 * h.line + site_of h ≡ 65536 + 2 * line + suc site = omega arith in z)
    ∙ sym (ap (λ (b : Bool). cond b line (65536 + 2 * line + suc site)) (ne_eqb (suc site) 0 (λ z. omega arith)))

-- A hold list's holds from a place on.
module _ (f : ℕ → Hold) (line site v : ℕ) where
  -- No hold of the site's rank.
  pub held_none : (count start : ℕ) → ((i : ℕ) → start ≤ i → i < start + count → rank_of (f i) ≡ site_rank line site → ⊥) →
      held (listed f count start) line site v ≡ v
  unfolding held listed
  held_none zero start h = refl
  held_none (suc count) start h = other (ℕ_discrete (f start).line line) (ℕ_discrete (site_of (f start)) site)
      (held_none count (suc start) (λ i l g. h i (omega arith) (omega arith)))
    where
      other : Dec ((f start).line ≡ line) → Dec (site_of (f start) ≡ site) → held (listed f count (suc start)) line site v ≡ v →
          cond (eqb (f start).line line && eqb (site_of (f start)) site) (level_of (f start)) (held (listed f count (suc start)) line site v) ≡ v
      other (yes p) (yes q) rest = absurd (h start (omega arith) (omega arith) (site-tells (f start) line site p q))
      other (yes p) (no q) rest = simp (eq-eqb (f start).line line p, ne_eqb (site_of (f start)) site q) rest
      other (no p) _ rest = simp (ne_eqb (f start).line line p) rest

  -- The first hold of the site decides.
  held_found : (count start i : ℕ) → start ≤ i → i < start + count → (f i).line ≡ line → site_of (f i) ≡ site →
      ((j : ℕ) → start ≤ j → j < i → rank_of (f j) ≡ site_rank line site → ⊥) → held (listed f count start) line site v ≡ level_of (f i)
  unfolding held listed
  held_found zero start i l g p q h = absurd (omega arith)
  held_found (suc count) start i l g p q h =
      ⊎_elim
      (λ (e : start ≡ i).
      simp (eq-eqb (f start).line line (ap (λ (k : ℕ). (f k).line) e ∙ p), eq-eqb (site_of (f start)) site (ap (λ (k : ℕ). site_of (f k)) e ∙ q))
      (ap (λ (k : ℕ). level_of (f k)) e))
      (λ m. other (ℕ_discrete (f start).line line) (ℕ_discrete (site_of (f start)) site) m
      (held_found count (suc start) i m (omega arith) p q (λ j k n. h j (omega arith) n)))
      (eq-or-lt_of_le l)
    where
      other : Dec ((f start).line ≡ line) → Dec (site_of (f start) ≡ site) → start < i → held (listed f count (suc start)) line site v ≡ level_of (f i) →
          cond (eqb (f start).line line && eqb (site_of (f start)) site) (level_of (f start)) (held (listed f count (suc start)) line site v)
          ≡ level_of (f i)
      other (yes p) (yes q) m rest = absurd (h start (omega arith) m (site-tells (f start) line site p q))
      other (yes p) (no q) m rest = simp (eq-eqb (f start).line line p, ne_eqb (site_of (f start)) site q) rest
      other (no p) _ m rest = simp (ne_eqb (f start).line line p) rest

-- A hold list of which question 14 says yes is sorted.
pub sorted : (first lines : ℕ) (holds : List ℕ) → lines ≤ 65536 → are_holds first lines holds ≡ true → Sorted holds
sorted first lines holds few ok =
    record {
      rising = rising;
      values = λ i l. (holds_at first lines holds ok i l).few;
      lines = λ i l. omega (arith, (holds_at first lines holds ok i l).within);
    }
  where
    step : (i : ℕ) → suc i < length holds / 3 → rank_of (hold_at holds i) < rank_of (hold_at holds (suc i))
    step i l = (holds_at first lines holds ok (suc i) l).after

    rising : (i j : ℕ) → i < j → j < length holds / 3 → rank_of (hold_at holds i) < rank_of (hold_at holds j)
    rising i zero l h = absurd (omega arith)
    rising i (suc j) l h =
        ⊎_elim (λ (e : suc i ≡ suc j). let z : i ≡ j = omega arith in rw z (step j h))
        (λ m. let a = rising i j (omega arith) (omega arith) in let b = step j h in omega arith) (eq-or-lt_of_le l)

-- A board's holds are sorted.
pub in_order : (b : Board) → Sorted b.holds.now
in_order b =
    let ready = b.ready in
    sorted (2 + length b.rails.now) (2 + length b.rails.now + length b.gates.now / 5) b.holds.now (omega (arith, ready.few, ready.many)) ready.sorted

module _ (holds : List ℕ) (ok : Sorted holds) where
  rank-here : (i : ℕ) → i < length holds / 3 → rank_at holds i ≡ rank_of (hold_at holds i)
  rank-here i l = ap (λ (b : Bool). cond b (rank_of (hold_at holds i)) 262144) (lt-ltb i (length holds / 3) l)

  rank-past : (i : ℕ) → length holds / 3 ≤ i → rank_at holds i ≡ 262144
  rank-past i l = ap (λ (b : Bool). cond b (rank_of (hold_at holds i)) 262144) (le-ltb i (length holds / 3) l)

  -- A place whose hold has the rank or a higher one is the first, if those before it are of lower rank.
  pub ahead-at : (rank i : ℕ) → Behind holds rank i → rank ≤ rank_at holds i → Ahead holds rank i
  ahead-at rank i b l =
      record {
        behind = b;
        from = λ k m h.
            ⊎_elim (λ (e : i ≡ k). rw e at (rw (rank-here i (omega arith)) at l))
            (λ n. let r = rank-here i (omega arith) in let s = ok.rising i k n h in omega arith) (eq-or-lt_of_le m);
      }

  pub ahead-rank : (rank i : ℕ) → Ahead holds rank i → rank ≤ 262144 → rank ≤ rank_at holds i
  ahead-rank rank i a l =
      by_cases (dec_lt i (length holds / 3)) (λ p. omega (arith, rank-here i p, a.from i (omega arith) p))
      (λ p. omega (arith, rank-past i (omega arith)))

  pub inside : (i : ℕ) → rank_at holds i < 262144 → i < length holds / 3
  inside i l = by_cases (dec_lt i (length holds / 3)) (λ p. p) (λ p. absurd (omega (arith, rank-past i (omega arith))))

  -- The hold at a place is of the rank, or none is.
  module _ (rank i : ℕ) (few : rank < 262144) (a : Ahead holds rank i) where
    pub missed : (n : Next) → n.at ≡ i → IsNext holds n → (rank_at holds i ≡ rank → ⊥) → Looks holds rank None n
    unfolding holds_of
    missed n f is ne =
        let over : (k : ℕ) → i ≤ k → k < length holds / 3 → rank < rank_of (hold_at holds k) = λ k m h.
        ⊎_elim
        (λ (q : i ≡ k).
        let s = rank-here i (omega arith) in let t = a.from i (omega arith) (omega arith) in rw (sym q) (omega arith))
        (λ n. let s = ok.rising i k n h in let t = a.from i (omega arith) (omega arith) in omega arith) (eq-or-lt_of_le m) in
        record {
          is-held = λ line site v s _ _.
              sym (held_none (hold_at holds) line site v (length holds / 3) 0 (λ k l h q.
              by_cases (dec_lt k i) (λ n. let t = a.behind k n (omega arith) in absurd (omega arith))
              (λ n. let t = over k (omega arith) (omega arith) in absurd (omega arith))));
          awaits = record {
            is = is;
            ahead = rw f (record { behind = λ k m h. omega (arith, a.behind k m h); from = λ k m h. omega (arith, over k m h) });
          };
        }

    pub met : (value : ℕ) (n : Next) → rank_at holds i ≡ rank → value ≡ level_of (hold_at holds i) → n.at ≡ i + 1 → IsNext holds n →
        Looks holds rank (Some value) n
    unfolding holds_of
    met value n e f g is =
        let l : i < length holds / 3 = inside i (omega arith) in
        let at : rank_of (hold_at holds i) ≡ rank = sym (rank-here i l) ∙ e in
        record {
          is-held = λ line site v s hl hs.
              let (p, q) = rank-tells (hold_at holds i) line site (ok.values i l) (ok.lines i l) hl hs (at ∙ s) in
              f ∙ sym (held_found (hold_at holds) line site v (length holds / 3) 0 i (omega arith) (omega arith) p q (λ j _ m z.
              let t = a.behind j m (omega arith) in omega arith));
          awaits = record {
            is = is;
            ahead = rw g (record {
              behind = λ k m h.
                  by_cases (dec_lt k i) (λ n. omega (arith, a.behind k n h)) (λ n. let z : k ≡ i = omega arith in rw z (omega arith));
              from = λ k m h. omega (arith, ok.rising i k (omega arith) h);
            });
          };
        }
