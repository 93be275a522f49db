-- Create: the refusals, and the head that is made. Assumes nothing.
use Rattle.std.specs.Prelude.{◌≡◌, Bool, true, false, ◌&&◌, not, ℕ, ◌+◌, ◌^◌, ◌≤◌, ◌<◌, leb}
use Rattle.std.proofs.Math.Path.{refl, ap}
use Rattle.std.proofs.Common.{sym, subst, ◌∙◌, arith, eq-eqb, ne_eqb, le-leb, ltb-true, leb-true}
use Rattle.std.proofs.Math.Option.{Option, some, none}
use mathlib.Core.List.{List, [], ◌∷◌}
use Rattle.std.proofs.lemmas.Bool.{lt-leb}
use Rattle.codec.specs.Bytes.{u8_at}
use Rattle.codec.specs.Lists.{and_true, and_both}
use Rattle.names.specs.declared.Name.{Name}
use Rattle.names.specs.Names.{is_name, is_text, name_from, name_from_law}
use Rattle.numbers.specs.Nodes.{is_within, is_set, join, single}
use Rattle.numbers.specs.Ids.{id_of}
use Rattle.records.specs.declared.head.Head.{Head}
use Rattle.document.specs.Tables.{Table, head_of, table_of, with_highest, with_next}
use Rattle.document.specs.Sound.{sound_bytes}
use Rattle.document.specs.Steps.{settle, stamp_at, clock_at, too_many, past_end, is_dead}
use Rattle.document.specs.Outcomes.{Outcome, refused, done, judged}
use Rattle.document.specs.Calls.{when, is_now, changed_by, not_held, not_directory, name_taken, deepest, new_head, created, create_in}
use Rattle.views.specs.Sounds.{sound_table}
use Rattle.views.specs.Lists.{not_none}
use Rattle.kept.specs.States.{new_id_free}
use Rattle.table.specs.Ranges.{nodes_at}
use Rattle.steps.specs.Standing.{Is}
use Rattle.steps.specs.States.{issue_stated, held_head}
use Rattle.changes.specs.Finishing.{Changes, changed, skip, stop}
use Rattle.changes.specs.Working.{set_below, with_header, changes_on}
use Rattle.answers.specs.declared.refusal.Refusal.{Refusal}
use Rattle.answers.specs.Refusals.{code}
use Rattle.changes.specs.declared.kind.Kind.{Kind}
use Rattle.changes.specs.Kinds.{kind_byte, kind_within}
use Rattle.changes.specs.Looking.{NoRoomFor}
use Rattle.changes.specs.Killing.{Takes, dead_is, live_is, not_now, is_now_law}

-- "2: .. set, kind or name outside its range; now above 2^40-1"
abbrev pub are_good : ℕ → ℕ → ℕ → Name → ℕ → Bool
are_good n now kind name set = is_now now && (is_within 1 kind 2 && (is_name name && is_set n set))

-- the four tests, one at a time
and_first : {a : Bool} (b : Bool) → a ≡ false → (a && b) ≡ false
and_first b e = ap (λ (z : Bool). z && b) e

and_next : (a : Bool) {b : Bool} → b ≡ false → (a && b) ≡ false
and_next true e = e
and_next false e = refl

not_true : (b : Bool) → not b ≡ true → b ≡ false
not_true true e = sym e
not_true false e = refl

not_false : (b : Bool) → not b ≡ false → b ≡ true
not_false true e = refl
not_false false e = sym e

module _ (n now kind set : ℕ) (name : Name) where
  pub bad_now : 1099511627775 < now → are_good n now kind name set ≡ false
  bad_now h = and_first _ (not_true (is_now now) (not_now now h))

  pub bad_kind : is_within 1 kind 2 ≡ false → are_good n now kind name set ≡ false
  bad_kind e = and_next (is_now now) (and_first _ e)

  pub bad_name : is_name name ≡ false → are_good n now kind name set ≡ false
  bad_name e = and_next (is_now now) (and_next (is_within 1 kind 2) (and_first _ e))

  pub bad_set : is_set n set ≡ false → are_good n now kind name set ≡ false
  bad_set e = and_next (is_now now) (and_next (is_within 1 kind 2) (and_next (is_name name) e))

  pub all_good : now ≤ 1099511627775 → is_within 1 kind 2 ≡ true → is_name name ≡ true → is_set n set ≡ true →
      are_good n now kind name set ≡ true
  all_good p q r s = and_both (not_false (is_now now) (is_now_law now p)) (and_both q (and_both r s))

-- the head of a new replica
abbrev pub born_head : ℕ → ℕ → ℕ → ℕ → Head → Name → Head
born_head kind id stamp holders p name =
    record {
      kind = kind;
      live = 1;
      id = id;
      stamp = stamp;
      holders = holders;
      depth = p.depth + 1;
      directory = p.id;
      name = name;
    }

-- ---- the head that is made

-- "16" and "17" of what is made, and then it is done
abbrev pub makes : ℕ → ℕ → Name → ℕ → Table → Head → Outcome
makes now kind name set t p =
    judged (when 16 (too_many (created now kind name set t p)) ∷ when 17 (past_end (created now kind name set t p)) ∷ [])
    (done (id_of t.own t.next) (created now kind name set t p) [])

pub record Makes (l : List ℕ) (now : ℕ) (p : Head) : Type 0 where
  pub takes : Takes l now p
  pub shallow : p.depth < 16

module _ {l : List ℕ} {now : ℕ} {p : Head} (k : Makes l now p) where
  abbrev t : Table
  t = table_of l

  -- the copy b of the table, once the id is taken (d), and once the clock is drawn (c)
  module _ {b c d : List ℕ} (copied : b ≡ l) (a : Is d (with_next (table_of b) ((table_of b).next + 1)))
      (i : Is c (with_highest (table_of d) (clock_at now (table_of d)))) where
    counted : table_of d ≡ with_next t (t.next + 1)
    counted = a.table ∙ ap (λ (z : List ℕ). with_next (table_of z) ((table_of z).next + 1)) copied

    drawn : Is c (with_header t (t.next + 1) (clock_at now t))
    drawn = subst (λ (u : Table). Is c (with_highest u (clock_at now u))) counted i

    pub make_changes : (kind : ℕ) (name : Name) (id stamp holders : ℕ) (g : Head) → g ≡ born_head kind id stamp holders p name →
        id ≡ id_of (table_of b).own (table_of b).next → Changes l c g
    make_changes kind name id stamp holders g e q =
        let s = sound_table l k.takes.sound in
        let n : id ≡ id_of t.own t.next = q ∙ ap (λ (z : List ℕ). id_of (table_of z).own (table_of z).next) copied in
        let free : head_of t id ≡ none = ap (head_of t) n ∙ new_id_free t s in
        subst (λ (z : Head). Changes l c z) (sym e)
        (changes_on (t.next + 1) (clock_at now t) (born_head kind id stamp holders p name) k.takes.sound drawn
        (held_head t p.id p k.takes.held)
        (λ old o. absurd (not_none (sym free ∙ o))))

    pub make_is : (kind : ℕ) (name : Name) (set : ℕ) (id stamp holders : ℕ) (g : Head) →
        g ≡ born_head kind id stamp holders p name → id ≡ id_of (table_of b).own (table_of b).next →
        stamp ≡ stamp_at now (table_of d) → holders ≡ join set (single t.own) →
        changed id g t (table_of c) ≡ makes now kind name set t p
    unfolding created
    make_is kind name set id stamp holders g e q f w =
        let u : Table = with_next t (t.next + 1) in
        let n : id ≡ id_of t.own t.next = q ∙ ap (λ (z : List ℕ). id_of (table_of z).own (table_of z).next) copied in
        let head : g ≡ new_head kind name set t p (stamp_at now u) =
        e ∙ ap (λ (z : ℕ). born_head kind z stamp holders p name) n
        ∙ ap (λ (z : ℕ). born_head kind (id_of t.own t.next) z holders p name) (f ∙ ap (stamp_at now) counted)
        ∙ ap (λ (z : ℕ). born_head kind (id_of t.own t.next) (stamp_at now u) z p name) w in
        ap (λ (z : ℕ). changed z g t (table_of c)) n
        ∙ ap (λ (z : Head). changed (id_of t.own t.next) z t (table_of c)) head
        ∙ ap (changed (id_of t.own t.next) (new_head kind name set t p (stamp_at now u)) t) drawn.table
        ∙ ap (λ (z : Table). judged (when 16 (too_many (settle t z)) ∷ when 17 (past_end (settle t z)) ∷ []) (done (id_of t.own t.next) (settle t z) []))
        (sym (issue_stated now (new_head kind name set t p) u))

-- ---- the refusals

-- in a directory that is held
abbrev pub created_in : ℕ → ℕ → Name → ℕ → Table → Head → Outcome
created_in now kind name set t p =
    judged
    (when 7 (is_dead (some p)) ∷ when 8 (not_directory (some p)) ∷ when 9 (name_taken p.id name t.entries)
    ∷ when 11 (deepest (some p)) ∷ when 16 (too_many (created now kind name set t p))
    ∷ when 17 (past_end (created now kind name set t p)) ∷ [])
    (done (id_of t.own t.next) (created now kind name set t p) [])

module _ (now kind : ℕ) (name : Name) (set : ℕ) (t : Table) (p : Head) where
  pub created_7 : (p.live ≡ 1 → ⊥) → created_in now kind name set t p ≡ refused 7
  created_7 n = stop 7 (is_dead (some p)) _ _ (dead_is p n)

  pub created_8 : p.live ≡ 1 → (p.kind ≡ 2 → ⊥) → created_in now kind name set t p ≡ refused 8
  created_8 e n = skip 7 (is_dead (some p)) _ _ (live_is p e) ∙ stop 8 (not_directory (some p)) _ _ (ap not (ne_eqb p.kind 2 n))

  module _ (e : p.live ≡ 1) (f : p.kind ≡ 2) where
    created_rest : created_in now kind name set t p
        ≡ judged (when 9 (name_taken p.id name t.entries) ∷ when 11 (deepest (some p))
        ∷ when 16 (too_many (created now kind name set t p)) ∷ when 17 (past_end (created now kind name set t p)) ∷ [])
        (done (id_of t.own t.next) (created now kind name set t p) [])
    created_rest =
        skip 7 (is_dead (some p)) _ _ (live_is p e) ∙ skip 8 (not_directory (some p)) _ _ (ap not (eq-eqb p.kind 2 f))

    pub created_9 : name_taken p.id name t.entries ≡ true → created_in now kind name set t p ≡ refused 9
    created_9 q = created_rest ∙ stop 9 (name_taken p.id name t.entries) _ _ q

    pub created_11 : name_taken p.id name t.entries ≡ false → 16 ≤ p.depth → created_in now kind name set t p ≡ refused 11
    created_11 q d =
        created_rest ∙ skip 9 (name_taken p.id name t.entries) _ _ q ∙ stop 11 (deepest (some p)) _ _ (le-leb 16 p.depth d)

    pub created_full : (r : Refusal) → NoRoomFor t p name r → created_in now kind name set t p ≡ refused (code r)
    unfolding judged
    created_full r w = created_rest ∙ w _

    pub created_makes : name_taken p.id name t.entries ≡ false → p.depth < 16 →
        created_in now kind name set t p ≡ makes now kind name set t p
    created_makes q d =
        created_rest ∙ skip 9 (name_taken p.id name t.entries) _ _ q ∙ skip 11 (deepest (some p)) _ _ (lt-leb 16 p.depth d)

-- by what is held
abbrev create_of : ℕ → ℕ → ℕ → List ℕ → ℕ → Table → Option Head → Outcome
create_of now d kind name set t o =
    judged
    (when 2 (not (is_now now && (is_within 1 kind 2 && (is_text name && is_set t.nodes set)))) ∷ when 6 (not_held o)
    ∷ when 7 (is_dead o) ∷ when 8 (not_directory o) ∷ when 9 (name_taken d (name_from name) t.entries) ∷ when 11 (deepest o)
    ∷ when 16 (too_many (changed_by (created now kind (name_from name) set t) t o))
    ∷ when 17 (past_end (changed_by (created now kind (name_from name) set t) t o)) ∷ [])
    (done (id_of t.own t.next) (changed_by (created now kind (name_from name) set t) t o) [])

module _ (now d kind : ℕ) (name : List ℕ) (set : ℕ) (t : Table) where
  create_of_law : create_in now d kind name set t ≡ create_of now d kind name set t (head_of t d)
  unfolding create_in
  create_of_law = refl

  -- "2" is judged of the name that the text becomes
  good_is : (b : Bool) → are_good t.nodes now kind (name_from name) set ≡ b →
      not (is_now now && (is_within 1 kind 2 && (is_text name && is_set t.nodes set))) ≡ not b
  good_is b e =
      ap (λ (z : Bool). not (is_now now && (is_within 1 kind 2 && (z && is_set t.nodes set)))) (sym (name_from_law name)) ∙ ap not e

  pub create_2 : are_good t.nodes now kind (name_from name) set ≡ false → create_in now d kind name set t ≡ refused 2
  create_2 e = create_of_law ∙ stop 2 _ _ _ (good_is false e)

  module _ (e : are_good t.nodes now kind (name_from name) set ≡ true) where
    pub create_6 : head_of t d ≡ none → create_in now d kind name set t ≡ refused 6
    create_6 n = create_of_law ∙ ap (create_of now d kind name set t) n ∙ skip 2 _ _ _ (good_is true e) ∙ stop 6 true _ _ refl

    pub create_in_law : (p : Head) → head_of t d ≡ some p → p.id ≡ d →
        create_in now d kind name set t ≡ created_in now kind (name_from name) set t p
    create_in_law p n i =
        create_of_law ∙ ap (create_of now d kind name set t) n ∙ skip 2 _ _ _ (good_is true e) ∙ skip 6 false _ _ refl
        ∙ ap (λ (f : ℕ). judged
        (when 7 (is_dead (some p)) ∷ when 8 (not_directory (some p)) ∷ when 9 (name_taken f (name_from name) t.entries)
        ∷ when 11 (deepest (some p)) ∷ when 16 (too_many (created now kind (name_from name) set t p))
        ∷ when 17 (past_end (created now kind (name_from name) set t p)) ∷ [])
        (done (id_of t.own t.next) (created now kind (name_from name) set t p) [])) (sym i)

-- ---- as the code has it: N read in place, and the name made

pub good_at : (l : List ℕ) (now kind : ℕ) (name : List ℕ) (set : ℕ) {n : ℕ} {m : Name} {r : Bool} → n ≡ u8_at l 3 → m ≡ name_from name →
    r ≡ are_good n now kind m set → {b : Bool} → r ≡ b → are_good (table_of l).nodes now kind (name_from name) set ≡ b
good_at l now kind name set {n} {m} {r} e f g {b} q =
    ap (λ (z : ℕ). are_good z now kind (name_from name) set) (sym (e ∙ nodes_at l)) ∙ ap (λ (z : Name). are_good n now kind z set) (sym f)
    ∙ sym g ∙ q

-- with the kind that a number names, and a name that was judged
pub good_of : (l name : List ℕ) (set : ℕ) (k : Kind) {now kind n : ℕ} {m : Name} {r : Bool} → now ≤ 1099511627775 →
    n ≡ u8_at l 3 → r ≡ is_set n set → r ≡ true → kind_byte k ≡ kind → m ≡ name_from name → is_name m ≡ true →
    are_good (table_of l).nodes now kind (name_from name) set ≡ true
good_of l name set k {now} {kind} {n} {m} h e f g p q w =
    all_good (table_of l).nodes now kind set (name_from name) h
    (subst (λ (z : ℕ). is_within 1 z 2 ≡ true) p (kind_within k))
    (ap is_name (sym q) ∙ w)
    (ap (λ (z : ℕ). is_set z set) (sym (e ∙ nodes_at l)) ∙ (sym f ∙ g))

module _ (n now kind set : ℕ) (name : Name) (e : are_good n now kind name set ≡ true) where
  pub good_early : now ≤ 1099511627775
  good_early = let p = ltb-true now (2 ^ 40) (and_true (is_now now) _ e).0 in omega (arith, p)

  pub good_kind : kind < 256
  good_kind =
      let p = and_true (is_within 1 kind 2) _ (and_true (is_now now) _ e).1 in
      let q = leb-true kind 2 (and_true (leb 1 kind) _ p.0).1 in
      omega (arith, q)

  good_is_set : is_set n set ≡ true
  good_is_set = (and_true (is_name name) _ (and_true (is_within 1 kind 2) _ (and_true (is_now now) _ e).1).1).1

pub good_set : (l : List ℕ) (now kind set : ℕ) (name : Name) → sound_bytes l ≡ true → are_good (table_of l).nodes now kind name set ≡ true → set < 256
good_set l now kind set name s e = set_below l s set (good_is_set (table_of l).nodes now kind set name e)

-- the clock of the copy, once the id is taken
pub make_clock : {l : List ℕ} {now : ℕ} {p : Head} → Makes l now p → {b d : List ℕ} → b ≡ l →
    Is d (with_next (table_of b) ((table_of b).next + 1)) → (table_of d).highest < 2 ^ 40
make_clock {l} {now} {p} k {b} {d} e a =
    let same : (table_of d).highest ≡ (table_of l).highest = ap (λ (t : Table). t.highest) a.table ∙ ap (λ (z : List ℕ). (table_of z).highest) e in
    omega (arith, same, (sound_table l k.takes.sound).highest)
