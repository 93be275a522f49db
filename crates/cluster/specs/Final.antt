-- K1 to K7 and nothing pending: demand 3, of tables as such. Assumes nothing.
use Rattle.std.specs.Prelude.{◌≡◌, refl, ◌⊎◌, Bool, true, false, ◌&&◌, cond, List, ℕ, zero, suc, ◌≤◌, ◌<◌, eqb}
use Rattle.std.proofs.Common.{ap, sym, subst, ◌∙◌, inl, inr, arith, eqb-true}
use Rattle.std.proofs.Math.Option.{Option, some, none}
use Rattle.codec.specs.Lists.{and_true, both_ways}
use Rattle.names.specs.declared.Name.{Name}
use Rattle.names.specs.Names.{same_name, same_name_eq}
use Rattle.numbers.specs.Nodes.{has}
use Rattle.numbers.specs.Laws.{has_all}
use Rattle.numbers.specs.Ids.{maker, issuer}
use Rattle.records.specs.declared.head.Head.{Head}
use Rattle.records.specs.declared.entry.Entry.{Entry}
use Rattle.records.specs.Entries.{entry_ext}
use Rattle.records.specs.Heads.{root_head}
use Rattle.slots.specs.declared.listed.Listed.{Listed}
use Rattle.document.specs.Tables.{head_of, find_entry, entry_of?, entry_of, entries_of}
use Rattle.views.specs.Lists.{In, same?, some_only}
use Rattle.views.specs.Puts.{head_id}
use Rattle.views.specs.Sets.{set_ext}
use Rattle.views.specs.Joins.{Key, entry_key, entry_in, entry_found, entry_member, in_entries, entries_in_law}
use Rattle.views.specs.Sounds.{sound_is}
use Rattle.cluster.specs.Cluster.{Node, State, state_of, Holds, Shown, LivesAt, Path, top, down, Demand3}
use Rattle.cluster.specs.Ranks.{rank_o, hold_o, mark_o, rank, mark, pend, Covers, leq_refl, leq_trans, held}
use Rattle.cluster.specs.Invariants.{World, Facts, is_at, True, makers, Inv}
use Rattle.cluster.specs.Sets.{in_range_law}

-- no node has anything pending
abbrev pub Silent : World → Type 0
Silent c = (i f j : ℕ) → Node c.nodes i → pend (c.tab i) f j ≡ false

-- a flag that is 1 under a test: the test holds, and the flag was 1
shown_at_law : (b : Bool) (x : ℕ) → cond b x 0 ≡ 1 → (b ≡ true) × (x ≡ 1)
shown_at_law true x e = (refl, e)
shown_at_law false x e = absurd (omega arith)

find_alike : (l : List Listed) {d d' c c' : ℕ} {n n' : Name} → d ≡ d' → c ≡ c' → n ≡ n' →
    find_entry d c n l ≡ find_entry d' c' n' l
find_alike l p q r = λ i. find_entry (p i) (q i) (r i) l

module _ (c : World) (L : List State) (k : Inv c L) (q : Silent c) where
  abbrev Has : ℕ → ℕ → Head → Type 0
  Has i f h = Holds c.nodes c.tab L i f h

  facts : (i : ℕ) → Node c.nodes i → Facts c.nodes (c.tab i)
  facts = k.k1.facts

  tells : (i j f : ℕ) → Node c.nodes i → Node c.nodes j → hold_o (head_of (c.tab i) f) j ≡ true →
      Covers (c.tab i) (c.tab j) f
  tells i j f ni nj h = go (same? i j)
    where
      go : (i ≡ j) ⊎ (i ≡ j → ⊥) → Covers (c.tab i) (c.tab j) f
      go (inl e) = subst (λ (m : ℕ). Covers (c.tab i) (c.tab m) f) e (leq_refl f _ _)
      go (inr ne) = k.k5.told i j f ni nj ne h (q i f j ni)

  -- the holder is named at its own table
  owns : (i f : ℕ) (h : Head) → Has i f h → hold_o (head_of (c.tab i) f) i ≡ true
  owns i f h (ni, e) = rw e (rw (k.k1.own i ni) at ((facts i ni).own f h e))

  names_maker : (i f : ℕ) (h : Head) → Has i f h → (f ≡ 0 → ⊥) → hold_o (head_of (c.tab i) f) (maker f) ≡ true
  names_maker i f h (ni, e) z = rw e ((makers c k.k1).named i f h ni e z)

  -- the root's head is the same on every node
  is_root_law : (i : ℕ) (h : Head) → Has i 0 h → h ≡ root_head c.nodes
  is_root_law i h (ni, e) = some_only (sym e ∙ (facts i ni).root)

  root_of : (i f : ℕ) (h : Head) → Has i f h → f ≡ 0 → h ≡ root_head c.nodes
  root_of i f h (ni, e) z = is_root_law i h (ni, ap (λ (m : ℕ). head_of (c.tab i) m) (sym z) ∙ e)

  -- any two that hold it cover each other
  agree : (i j f : ℕ) (g h : Head) → Has i f g → Has j f h → Covers (c.tab i) (c.tab j) f
  agree i j f g h (ni, eg) (nj, eh) = go (same? f 0)
    where
      go : (f ≡ 0) ⊎ (f ≡ 0 → ⊥) → Covers (c.tab i) (c.tab j) f
      go (inl z) =
          tells i j f ni nj
          (rw eg (ap (λ (x : Head). has x.holders j) (root_of i f g (ni, eg) z) ∙ has_all c.nodes j nj.0
          nj.1))
      go (inr z) =
          let m : ℕ = maker f in
          let nm = (makers c k.k1).node i f g ni eg z in
          let up = tells i m f ni nm (names_maker i f g (ni, eg) z) in
          let back = tells j m f nj nm (names_maker j f h (nj, eh) z) in
          let down = tells m j f nm nj (back.hold j (owns j f h (nj, eh))) in
          leq_trans f _ _ _ _ _ _ up down

  -- ---- "every node named as a holder of a file holds it"

  holder_node : (i j f : ℕ) (h : Head) → Has i f h → has h.holders j ≡ true → Node c.nodes j
  holder_node i j f h (ni, e) p = in_range_law c.nodes h.holders j ((facts i ni).within f h e) p

  named_holds : (i j f : ℕ) (h : Head) → Has i f h → has h.holders j ≡ true → (g : Head) × Has j f g
  named_holds i j f h a p =
      let nj = holder_node i j f h a p in
      let r = (tells i j f a.0 nj (rw a.1 p)).rank in
      let o = held (head_of (c.tab j) f) (omega (arith, ap rank_o a.1)) in
      (o.0, (nj, o.1))

  -- ---- "all its replicas agree in state, holders and entries"

  items : (i f : ℕ) (h : Head) → Has i f h → (f ≡ 0 → ⊥) → In (state_of h) L
  items i f h (ni, e) z = (k.k2.tables i ni).heads f h e z

  stamps : (i j f : ℕ) (g h : Head) → Has i f g → Has j f h → g.stamp ≡ h.stamp
  stamps i j f g h a b =
      let u : rank_o (some g) ≤ rank_o (some h) = rw (a.1, b.1) at (agree i j f g h a b).rank in
      let v : rank_o (some h) ≤ rank_o (some g) = rw (b.1, a.1) at (agree j i f h g b a).rank in
      omega arith

  state_of_law : (i j f : ℕ) (g h : Head) → Has i f g → Has j f h → state_of g ≡ state_of h
  state_of_law i j f g h a b = go (same? f 0)
    where
      go : (f ≡ 0) ⊎ (f ≡ 0 → ⊥) → state_of g ≡ state_of h
      go (inl z) = ap state_of (root_of i f g a z ∙ sym (root_of j f h b z))
      go (inr z) = k.k2.one (state_of g) (state_of h) (items i f g a z) (items j f h b z) (stamps i j f g h a b)

  holders_of_law : (i j f : ℕ) (g h : Head) → Has i f g → Has j f h → g.holders ≡ h.holders
  holders_of_law i j f g h a b =
      set_ext c.nodes g.holders h.holders ((facts i a.0).within f g a.1)
      ((facts j b.0).within f h b.1)
      (λ m. both_ways _ _ (way i j g h a b m) (way j i h g b a m))
    where
      way : (i j : ℕ) (g h : Head) → Has i f g → Has j f h → (m : ℕ) → has g.holders m ≡ true →
          has h.holders m ≡ true
      way i j g h a b m p =
          let z : hold_o (head_of (c.tab i) f) m ≡ true = rw a.1 p in
          rw b.1 at ((agree i j f g h a b).hold m z)

  marks : (i j f : ℕ) (g h : Head) → Has i f g → Has j f h → (l : ℕ) (n : Name) →
      mark (c.tab i) f l n ≡ mark (c.tab j) f l n
  marks i j f g h a b l n = omega (arith, (agree i j f g h a b).mark l n, (agree j i f h g b a).mark l n)

  -- two true entries of one key and stamp are one
  one_entry : (d f : ℕ) (n : Name) (x y : Listed) → Key d f n x → Key d f n y → True L x → True L y →
      x.entry.stamp ≡ y.entry.stamp → x.entry ≡ y.entry
  one_entry d f n x y kx ky tx ty s =
      let same : tx.state ≡ ty.state =
      k.k2.one tx.state ty.state tx.known ty.known (tx.stamp ∙ s ∙ sym ty.stamp) in
      let di : x.directory ≡ y.directory = kx.directory ∙ sym ky.directory in
      let na : x.entry.name ≡ y.entry.name = kx.name ∙ sym ky.name in
      let li : x.entry.live ≡ y.entry.live =
      tx.live
      ∙ ap (λ (z : State). cond (eqb z.directory x.directory && same_name z.name x.entry.name)
      z.live 0) same
      ∙ (rw (di, na) (sym ty.live)) in
      entry_ext li (kx.child ∙ sym ky.child) s na

  entries_of_law : (i j f : ℕ) (g h : Head) → Has i f g → Has j f h → (l : ℕ) (n : Name) →
      entry_of (c.tab i) f l n ≡ entry_of (c.tab j) f l n
  entries_of_law i j f g h a b l n =
      go (find_entry f l n (c.tab i).entries) refl (find_entry f l n (c.tab j).entries) refl (marks i j f g h a b l n)
    where
      go : (x : Option Listed) → find_entry f l n (c.tab i).entries ≡ x → (y : Option Listed) →
          find_entry f l n (c.tab j).entries ≡ y → mark_o x ≡ mark_o y → entry_of? x ≡ entry_of? y
      go none p none r m = refl
      go none p (some y) r m = absurd (omega arith)
      go (some x) p none r m = absurd (omega arith)
      go (some x) p (some y) r m =
          ap some
          (one_entry f l n x y (entry_key f l n _ x p) (entry_key f l n _ y r)
          ((k.k2.tables i a.0).entries x (entry_in f l n _ x p))
          ((k.k2.tables j b.0).entries y (entry_in f l n _ y r)) (omega arith))

  -- as they stand in the two lists
  listed_of : (i j f : ℕ) (g h : Head) → Has i f g → Has j f h → (e : Entry) → In e (entries_of f (c.tab i).entries) →
      In e (entries_of f (c.tab j).entries)
  listed_of i j f g h a b e m =
      let x = entries_in_law f (c.tab i).entries e m in
      let u = (sound_is (c.tab i) (k.k1.sound i a.0)).keys_unique_law in
      let at : find_entry f e.child e.name (c.tab i).entries ≡ some x.0 =
      find_alike (c.tab i).entries (sym x.2) (ap (λ (z : Entry). z.child) (sym x.3))
      (ap (λ (z : Entry). z.name) (sym x.3))
      ∙ entry_member (c.tab i).entries u x.0 x.1 in
      let there : entry_of (c.tab j) f e.child e.name ≡ some e =
      sym (entries_of_law i j f g h a b e.child e.name) ∙ ap entry_of? at ∙ ap some x.3 in
      let y = entry_found (find_entry f e.child e.name (c.tab j).entries) e there in
      subst (λ (z : Entry). In z (entries_of f (c.tab j).entries)) y.2
      (in_entries f (c.tab j).entries y.0 (entry_in f e.child e.name _ y.0 y.1)
      (entry_key f e.child e.name _ y.0 y.1).directory)

  -- ---- "and show the state with the greatest stamp ever issued for it"

  -- its issuer holds it
  there : (x : State) → In x L → (i : ℕ) × (h : Head) × Has i x.id h
  there x m =
      let s : ℕ = issuer x.stamp in
      let g = held (head_of (c.tab s) x.id) (omega (arith, (k.k6.remembers x m).held)) in
      (s, g.0, (k.k3.node x m, g.1))

  greatest : (i f : ℕ) (h : Head) → Has i f h → (x : State) → In x L → x.id ≡ f → x.stamp ≤ h.stamp
  greatest i f h a x m e =
      let s : ℕ = issuer x.stamp in
      let r : suc x.stamp ≤ rank (c.tab s) f = rw e at (k.k6.remembers x m).held in
      let g = held (head_of (c.tab s) f) (omega arith) in
      let b : Has s f g.0 = (k.k3.node x m, g.1) in
      let t = stamps s i f g.0 h b a in
      let u : suc x.stamp ≤ rank_o (some g.0) = rw g.1 at r in
      omega arith

  -- ---- "each directory has a live entry for a child and name exactly when that child is live and this is its place"

  shown_lives : (i d : ℕ) (p : Head) → Has i d p → (f : ℕ) (n : Name) →
      Shown c.nodes c.tab L i d f n → LivesAt c.nodes c.tab L d f n
  shown_lives i d p a f n (e, at, live) =
      let y = entry_found (find_entry d f n (c.tab i).entries) e at in
      let w : Listed = y.0 in
      let t = (k.k2.tables i a.0).entries w (entry_in d f n _ w y.1) in
      let x : State = t.state in
      let ky = entry_key d f n _ w y.1 in
      let on = shown_at_law (is_at x w) x.live (sym t.live ∙ ap (λ (z : Entry). z.live) y.2 ∙ live) in
      let place = and_true (eqb x.directory w.directory) _ on.0 in
      let xd : x.directory ≡ d = eqb-true _ _ place.0 ∙ ky.directory in
      let xn : x.name ≡ n = same_name_eq _ _ place.1 ∙ ky.name in
      let xf : x.id ≡ f = t.child ∙ ky.child in
      let s : ℕ = issuer x.stamp in
      let ns = k.k3.node x t.known in
      let rem = k.k6.remembers x t.known in
      let r : suc x.stamp ≤ rank (c.tab s) f = rw xf at rem.held in
      let m : suc x.stamp ≤ mark (c.tab s) d f n = rw (xd, xf, xn) at rem.entered in
      let b : suc x.stamp < rank (c.tab s) f → suc x.stamp < mark (c.tab s) d f n =
      rw (xd, xf, xn) at rem.struck in
      let g = held (head_of (c.tab s) f) (omega arith) in
      let dd = held (head_of (c.tab s) d) ((facts s ns).dirs d f n (omega arith)) in
      let mm : mark (c.tab i) d f n ≡ mark (c.tab s) d f n = marks i s d p dd.0 a (ns, dd.1) f n in
      let me : suc w.entry.stamp ≡ mark (c.tab s) d f n = sym (ap mark_o y.1) ∙ mm in
      let no : suc x.stamp < rank (c.tab s) f → ⊥ = λ lt. let z = b lt in omega (arith, t.stamp) in
      let eq : suc g.0.stamp ≡ rank (c.tab s) f = sym (ap rank_o g.1) in
      let nz : f ≡ 0 → ⊥ = λ z. omega (arith, (facts s ns).child d n, ap (λ (o : ℕ). mark (c.tab s) d o n) z) in
      let same : state_of g.0 ≡ x =
      k.k2.one (state_of g.0) x (items s f g.0 (ns, g.1) nz) t.known (omega (arith, no)) in
      record {
        node = s;
        head = g.0;
        holds = (ns, g.1);
        other = nz;
        live = ap (λ (z : State). z.live) same ∙ on.1;
        directory = ap (λ (z : State). z.directory) same ∙ xd;
        named = ap (λ (z : State). z.name) same ∙ xn;
      }

  lives_shown : (i d : ℕ) (p : Head) → Has i d p → (f : ℕ) (n : Name) →
      LivesAt c.nodes c.tab L d f n → Shown c.nodes c.tab L i d f n
  lives_shown i d p a f n l =
      let s : ℕ = l.node in
      let h : Head = l.head in
      let b = l.holds in
      let e = (facts s b.0).entry f h b.1 l.other l.live in
      let w : Listed = e.entry in
      let fh : h.id ≡ f = head_id f _ h b.1 in
      let there : find_entry d f n (c.tab s).entries ≡ some w =
      find_alike (c.tab s).entries (sym l.directory) (sym fh) (sym l.named) ∙ e.there in
      let t = (k.k2.tables s b.0).entries w (entry_in d f n _ w there) in
      let ky = entry_key d f n _ w there in
      let top = greatest s f h b t.state t.known (t.child ∙ ky.child) in
      let eq : h.stamp ≡ w.entry.stamp = omega (arith, e.stamp, t.stamp) in
      let up = (facts s b.0).place f h b.1 l.other in
      let hold : head_of (c.tab s) d ≡ some up.parent =
      ap (λ (m : ℕ). head_of (c.tab s) m) (sym l.directory) ∙ up.found in
      (w.entry, entries_of_law i s d p up.parent a (b.0, hold) f n ∙ ap entry_of? there, e.live eq)

  -- ---- "and every live file has a path of live entries from the root on each node that holds it"

  paths : (m i f : ℕ) (h : Head) → Has i f h → h.live ≡ 1 → h.depth ≤ m → Path c.nodes c.tab L i f
  paths zero i f h a l le = go (same? f 0)
    where
      go : (f ≡ 0) ⊎ (f ≡ 0 → ⊥) → Path c.nodes c.tab L i f
      go (inl z) = subst (λ (g : ℕ). Path c.nodes c.tab L i g) (sym z) top
      go (inr z) = absurd (omega (arith, ((facts i a.0).place f h a.1 z).depth))
  paths (suc m) i f h a l le = go (same? f 0) (paths m i)
    where
      go : (f ≡ 0) ⊎ (f ≡ 0 → ⊥) →
          ((d : ℕ) (p : Head) → Has i d p → p.live ≡ 1 → p.depth ≤ m → Path c.nodes c.tab L i d) →
          Path c.nodes c.tab L i f
      go (inl z) ih = subst (λ (g : ℕ). Path c.nodes c.tab L i g) (sym z) top
      go (inr z) ih =
          let up = (facts i a.0).place f h a.1 z in
          let b : Has i h.directory up.parent = (a.0, up.found) in
          down h.directory f h.name (ih h.directory up.parent b (up.live l) (omega (arith, up.depth)))
          (lives_shown i h.directory up.parent b f h.name
          (record { node = i; head = h; holds = a; other = z; live = l; directory = refl; named = refl }))

  pub demand3 : Demand3 c.nodes c.tab L
  demand3 =
      record {
        held = named_holds;
        states = state_of_law;
        holders = holders_of_law;
        entries = λ i j f g h a b e. (listed_of i j f g h a b e, listed_of j i f h g b a e);
        found = entries_of_law;
        shows = items;
        greatest = greatest;
        once = k.k2.one;
        there = there;
        shown = λ i d p a f n. (shown_lives i d p a f n, lives_shown i d p a f n);
        path = λ i f h a l. paths h.depth i f h a l (omega arith);
      }
