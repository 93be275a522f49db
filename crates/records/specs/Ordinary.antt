-- A head in its range, field by field: the root's, or one whose fields are each in theirs. Assumes nothing.
use Rattle.std.specs.Prelude.{◌≡◌, refl, Bool, true, false, ◌||◌, cond, ℕ, eqb, leb}
use Rattle.std.proofs.Common.{ap, sym, ◌∙◌, eq-eqb, ne_eqb}
use Rattle.codec.specs.Lists.{and_true, and_both}
use Rattle.names.specs.Names.{is_name}
use Rattle.numbers.specs.Nodes.{is_within, is_set}
use Rattle.numbers.specs.Ids.{is_id, is_made, is_stamp}
use Rattle.records.specs.declared.head.Head.{Head}
use Rattle.records.specs.Heads.{root_head, is_root, is_ordinary, head_fits, root_is}

-- the fields of a head other than the root's
pub record Ordinary (n : ℕ) (h : Head) : Type 0 where
  pub kind : is_within 1 h.kind 2 ≡ true
  pub live : leb h.live 1 ≡ true
  pub made : is_made n h.id ≡ true
  pub stamp : is_stamp n h.stamp ≡ true
  pub holders : is_set n h.holders ≡ true
  pub depth : is_within 1 h.depth 16 ≡ true
  pub directory : is_id n h.directory ≡ true
  pub name : is_name h.name ≡ true

pub fields_of : (n : ℕ) (h : Head) → is_ordinary n h ≡ true → Ordinary n h
unfolding is_ordinary
fields_of n h o =
    let a = and_true (is_within 1 h.kind 2) _ o in
    let b = and_true (leb h.live 1) _ a.1 in
    let c = and_true (is_made n h.id) _ b.1 in
    let d = and_true (is_stamp n h.stamp) _ c.1 in
    let f = and_true (is_set n h.holders) _ d.1 in
    let g = and_true (is_within 1 h.depth 16) _ f.1 in
    let k = and_true (is_id n h.directory) _ g.1 in
    record {
      kind = a.0;
      live = b.0;
      made = c.0;
      stamp = d.0;
      holders = f.0;
      depth = g.0;
      directory = k.0;
      name = k.1;
    }

pub ordinary_is : (n : ℕ) (h : Head) → (h.id ≡ 0 → ⊥) → head_fits n h ≡ true → Ordinary n h
unfolding head_fits
ordinary_is n h z e =
    fields_of n h (sym (ap (λ (b : Bool). cond b (is_root n h) (is_ordinary n h)) (ne_eqb h.id 0 z)) ∙ e)

pub is_ordinary_law : (n : ℕ) (h : Head) → (h.id ≡ 0 → ⊥) → Ordinary n h → head_fits n h ≡ true
unfolding head_fits is_ordinary
is_ordinary_law n h z o =
    ap (λ (b : Bool). cond b (is_root n h) (is_ordinary n h)) (ne_eqb h.id 0 z)
    ∙ and_both o.kind
    (and_both o.live
    (and_both o.made
    (and_both o.stamp (and_both o.holders (and_both o.depth (and_both o.directory o.name))))))

-- a head in range with the root's id is the root's
pub root_fits : (n : ℕ) (h : Head) → head_fits n h ≡ true → h.id ≡ 0 → h ≡ root_head n
unfolding head_fits
root_fits n h e z = root_is n h (rw (eq-eqb h.id 0 z) at e)

-- the root's head
pub is_root_fit : (n : ℕ) (h : Head) → h.id ≡ 0 → is_root n h ≡ true → head_fits n h ≡ true
unfolding head_fits
is_root_fit n h z r = ap (λ (b : Bool). cond b (is_root n h) (is_ordinary n h)) (eq-eqb h.id 0 z) ∙ r

-- the id of a head in its range is an id
pub head_id_fits : (n : ℕ) (h : Head) → head_fits n h ≡ true → is_id n h.id ≡ true
unfolding head_fits is_id
head_id_fits n h e = go (eqb h.id 0) e
  where
    go : (b : Bool) → cond b (is_root n h) (is_ordinary n h) ≡ true → (b || is_made n h.id) ≡ true
    go true f = refl
    go false f = (fields_of n h f).made
