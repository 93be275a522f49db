-- The loops of a receive, turn by turn: over the message's heads from the root side down, and over entries in order.
-- Assumes nothing.
use Rattle.std.specs.Prelude.{◌≡◌, refl, Bool, true, false, ℕ, zero, suc, ◌+◌, ◌-◌, ◌≤◌, ◌<◌}
use Rattle.std.proofs.Math.Path.{ap}
use Rattle.std.proofs.Common.{sym, subst, ◌∙◌, arith}
use mathlib.Core.List.Memᴰ
use mathlib.Core.List.{List, [], ◌∷◌, map}
use Rattle.records.specs.declared.head.Head.{Head}
use Rattle.slots.specs.declared.listed.Listed.{Listed}
use Rattle.document.specs.Tables.{Table, slots_from, table_of}
use Rattle.document.specs.Steps.{joined, join_all, too_many}
use Rattle.steps.specs.Standing.{Is}
use Rattle.steps.specs.Joining.{has_room}
use Rattle.steps.specs.States.{Held, Made, many_all, Housed, made_past}
use Rattle.merge.specs.Working.{Works, AllHeld, made_works, made_all, made_full, join_made, housed_joined}

-- ---- slots

-- the next slot
pub slots_next : {A : Type 0} (g : ℕ → A) (n i : ℕ) → i < n →
    slots_from g i (n - i) ≡ g i ∷ slots_from g (i + 1) (n - (i + 1))
unfolding slots_from
slots_next g n i h =
    let p : n - i ≡ suc (n - (i + 1)) = omega arith in
    let q : suc i ≡ i + 1 = omega arith in
    ap (slots_from g i) p ∙ ap (λ (k : ℕ). g i ∷ slots_from g k (n - (i + 1))) q

-- the slot before
pub slots_before : {A : Type 0} (g : ℕ → A) (n j : ℕ) → 1 ≤ j → j ≤ n →
    slots_from g (j - 1) (n - (j - 1)) ≡ g (j - 1) ∷ slots_from g j (n - j)
slots_before g n j low high =
    let q : j - 1 + 1 ≡ j = omega arith in
    slots_next g n (j - 1) (omega arith) ∙ ap (λ (k : ℕ). g (j - 1) ∷ slots_from g k (n - k)) q

pub slots_end : {A : Type 0} (g : ℕ → A) (n i : ℕ) → n ≤ i → slots_from g i (n - i) ≡ []
unfolding slots_from
slots_end g n i h = let p : n - i ≡ 0 = omega arith in ap (slots_from g i) p

pub slots_map : {A B : Type 0} (f : A → B) (g : ℕ → A) (s n : ℕ) →
    map f (slots_from g s n) ≡ slots_from (λ (i : ℕ). f (g i)) s n
unfolding slots_from
slots_map f g s zero = refl
slots_map f g s (suc n) = ap (λ (xs : List _). f (g s) ∷ xs) (slots_map f g (suc s) n)

-- ---- heads, the last first

unfoldable pub down : (Head → Table → Table) → List Head → Table → Table
down f [] t = t
down f (h ∷ hs) t = f h (down f hs t)

module _ (f : Head → Table → Table) (g : ℕ → Head) (n : ℕ) (t : Table) where
  -- the table when the heads from j on are through
  abbrev pub down_to : ℕ → Table
  down_to j = down f (slots_from g j (n - j)) t

  pub down_first : down_to n ≡ t
  unfolding down
  down_first = ap (λ (hs : List Head). down f hs t) (slots_end g n n (omega arith))

  pub down_next : (j : ℕ) → 1 ≤ j → j ≤ n → f (g (j - 1)) (down_to j) ≡ down_to (j - 1)
  unfolding down
  down_next j low high = ap (λ (hs : List Head). down f hs t) (sym (slots_before g n j low high))

  -- past a limit on the way is past it at the end
  pub down_many : ((h : Head) (u : Table) → too_many u ≡ true → too_many (f h u) ≡ true) → (j : ℕ) → 1 ≤ j → j ≤ n →
      too_many (down_to j) ≡ true → too_many (down_to 1) ≡ true
  down_many many zero low high e = absurd (omega arith)
  down_many many (suc zero) low high e = e
  down_many many (suc (suc j)) low high e =
      let less : suc (suc j) - 1 ≡ suc j = omega arith in
      down_many many (suc j) (omega arith) (omega arith)
      (ap (λ (i : ℕ). too_many (down_to i)) (sym less) ∙ ap too_many (sym (down_next (suc (suc j)) (omega arith) high))
      ∙ many (g (suc (suc j) - 1)) (down_to (suc (suc j))) e)

  -- what each turn keeps
  module _ (Q : Table → Type 0) (keeps : (j : ℕ) → 1 ≤ j → j < n → (u : Table) → Q u → Q (f (g j) u))
      (houses : (u : Table) → Q u → Housed u)
      (many : (h : Head) (u : Table) → too_many u ≡ true → too_many (f h u) ≡ true) where
    pub record Down (j : ℕ) (l : List ℕ) : Type 0 where
      pub low : 1 ≤ j
      pub high : j ≤ n
      pub works : Works l
      pub is : table_of l ≡ down_to j
      pub also : Q (table_of l)

    pub down_start : {l : List ℕ} → 1 ≤ n → Works l → table_of l ≡ t → Q (table_of l) → Down n l
    down_start {l} low w e q =
        record { low = low; high = omega arith; works = w; is = e ∙ sym down_first; also = q }

    pub down_turn : {l l' : List ℕ} (j : ℕ) → Down j l → 1 < j → (h : Head) → h ≡ g (j - 1) → (r : Bool) →
        Made r l' (f h (table_of l)) →
        r ≡ true → Down (j - 1) l'
    down_turn {l} {l'} j d more h e r m went =
        let m' : Made true l' (f (g (j - 1)) (table_of l)) =
        subst (λ (x : Head). Made true l' (f x (table_of l))) e
        (subst (λ (b : Bool). Made b l' (f h (table_of l))) went m) in
        let is = m'.bytes refl in
        let q = keeps (j - 1) (omega arith) (omega (arith, d.high)) (table_of l) d.also in
        record {
          low = omega arith;
          high = omega (arith, d.high);
          works = made_works m' (houses _ q);
          is = is.table ∙ ap (f (g (j - 1))) d.is ∙ down_next j d.low d.high;
          also = subst Q (sym is.table) q;
        }

    pub down_full : {l l' : List ℕ} (j : ℕ) → Down j l → 1 < j → (h : Head) → h ≡ g (j - 1) → (r : Bool) →
        Made r l' (f h (table_of l)) →
        r ≡ false → {l2 : List ℕ} → Made false l2 (down_to 1)
    down_full {l} {l'} j d more h e r m full {l2} =
        made_full (down_many many (j - 1) (omega arith) (omega (arith, d.high))
        (ap too_many (sym (ap (λ (x : Head). f x (table_of l)) e ∙ ap (f (g (j - 1))) d.is ∙ down_next j d.low
        d.high)) ∙ made_past m full))

    pub down_end : {l : List ℕ} (j : ℕ) → Down j l → (1 < j → ⊥) → Made true l (down_to 1)
    down_end {l} j d last =
        let one : j ≡ 1 = omega (arith, d.low) in
        made_all d.works (d.is ∙ ap down_to one)

-- ---- entries, in order

module _ (x : ℕ → Listed) (k : ℕ) (goal : Table) where
  pub record Joining (i : ℕ) (l : List ℕ) : Type 0 where
    pub works : Works l
    pub held : AllHeld (slots_from x i (k - i)) (table_of l)
    pub leads : join_all (slots_from x i (k - i)) (table_of l) ≡ goal

  module _ {l : List ℕ} (i : ℕ) (j : Joining i l) (more : i < k) (e : Listed) (is : e ≡ x i) where
    -- what is left, from this one on
    rest : AllHeld (x i ∷ slots_from x (i + 1) (k - (i + 1))) (table_of l)
    rest = subst (λ (es : List Listed). AllHeld es (table_of l)) (slots_next x k i more) j.held

    pub turn_held : Held (table_of l) e.directory
    turn_held = subst (λ (y : Listed). Held (table_of l) y.directory) (sym is) (rest (x i) (Memᴰ.head refl))

    leads_on : join_all (slots_from x (i + 1) (k - (i + 1))) (joined e (table_of l)) ≡ goal
    unfolding join_all
    leads_on =
        ap (λ (y : Listed). join_all (slots_from x (i + 1) (k - (i + 1))) (joined y (table_of l))) is
        ∙ ap (λ (es : List Listed). join_all es (table_of l)) (sym (slots_next x k i more)) ∙ j.leads

    module _ {l' : List ℕ} (r : Bool) (p : r ≡ has_room e (table_of l))
        (q : r ≡ true → Is l' (joined e (table_of l))) where
      step : Made r l' (joined e (table_of l))
      step = join_made e j.works turn_held p q

      pub turn_full : r ≡ false → {l2 : List ℕ} → Made false l2 goal
      turn_full full = made_full (ap too_many (sym leads_on) ∙ many_all _ (joined e (table_of l)) (made_past step full))

      pub turn_next : r ≡ true → Joining (i + 1) l'
      turn_next went =
          let is' = q went in
          record {
            works = made_works (subst (λ (b : Bool). Made b l' (joined e (table_of l))) went step)
                (housed_joined e (table_of l) j.works.housed turn_held);
            held = λ y m. subst (λ (u : Table). Held u y.directory) (sym is'.table) (rest y (Memᴰ.tail m));
            leads = ap (join_all (slots_from x (i + 1) (k - (i + 1)))) is'.table ∙ leads_on;
          }

  pub turn_end : {l : List ℕ} (i : ℕ) → Joining i l → k ≤ i → Made true l goal
  unfolding join_all
  turn_end {l} i j done =
      made_all j.works (ap (λ (es : List Listed). join_all es (table_of l)) (sym (slots_end x k i done)) ∙ j.leads)
