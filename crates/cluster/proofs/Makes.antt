-- Each call of a node, accepted or refused, keeps what holds of every cluster that can be reached. Assumes nothing.
use Rattle.std.specs.Prelude.{◌≡◌, refl, ◌⊎◌, Bool, true, false, cond, List, [], ◌∷◌, ◌++◌, ℕ, eqb}
use Rattle.std.proofs.Common.{ap, sym, subst, ◌∙◌, inl, inr, eqb-true}
use Rattle.std.proofs.Math.Option.{Option, some}
use Rattle.std.proofs.lemmas.Bool.{eqb-false}
use Rattle.messages.specs.declared.acknowledgement.Acknowledgement.{Acknowledgement}
use Rattle.messages.specs.Acknowledgements.{ack_bytes}
use Rattle.document.specs.Tables.{Table, table_of, with_replicas}
use Rattle.document.specs.Sound.{sound}
use Rattle.document.specs.Messages.{Push, message_bytes, push_from, read_push, read_ack}
use Rattle.document.specs.Receive.{ack_for}
use Rattle.document.specs.Outcomes.{Outcome, refused, done}
use Rattle.document.specs.Calls.{clear}
use Rattle.document.specs.ReadingMessages.{message_fits}
use Rattle.document.specs.Reading.{Shaped, sound_shaped}
use Rattle.views.specs.Lists.{In}
use Rattle.views.specs.Sounds.{Sound, sound_table}
use Rattle.views.specs.ReadBack.{push_read_back, push_read}
use Rattle.kept.specs.Accepted.{done_table}
use Rattle.kept.specs.Kept.{Left, list_same, create_left, unlink_left, rename_left, remove_left, spread_left, list_left, push_left, acknowledged_left, pending_left}
use Rattle.kept.specs.ReceiveSound.{receive_left}
use Rattle.cluster.specs.Cluster.{Node, State, Cluster, Call, creates, unlinks, renames, removes, spreads, lists, pushes, receives, hears, counts, answer, sends, draws, issues, received_states, Handed, after}
use Rattle.cluster.specs.Invariants.{World, Facts, Inv}
use Rattle.cluster.specs.Settle.{Nobody}
use Rattle.cluster.specs.Keeps.{Done, keeps}
use Rattle.cluster.specs.Issue.{Ready}
use Rattle.cluster.specs.Users.{ready_of, done_of, Went, went_create, went_kill, went_rename, went_spread}
use Rattle.cluster.specs.Net.{writes_keep, hears_keep}
use Rattle.cluster.specs.Receive.{takes_keep}
use Rattle.cluster.specs.Accepted.{answer_in, on_table, creates_is, unlinks_is, removes_is, renames_is, spreads_is, writes_is, takes_is, receives_is, Hears, hears_is, acknowledges_is}
use Rattle.cluster.specs.Reached.{Letter, push_letter, ack_letter, world, Reached, moved, stands, lands}
use mathlib.Core.List.Memᴰ

-- what every accepted call leaves is sound, bytes and table
pub left : (k : Call) (l : List ℕ) (v : ℕ) (u : Table) (w : List ℕ) → answer k l ≡ done v u w → Left u
left (creates now d kind name set) l v u w e = create_left l v u w now d kind name set e
left (unlinks now id) l v u w e = unlink_left l v u w now id e
left (renames now id d name) l v u w e = rename_left l v u w now id d name e
left (removes now id) l v u w e = remove_left l v u w now id e
left (spreads id set) l v u w e = spread_left l v u w id set e
left (lists id room) l v u w e = list_left l v u w id room e
left (pushes id node room) l v u w e = push_left l v u w id node room e
left (receives now message room) l v u w e = receive_left l now message room v u w e
left (hears message) l v u w e = acknowledged_left l v u w message e
left counts l v u w e = pending_left l v u w e

module _ (c : Cluster) (r : Reached c) (i : ℕ) (ni : Node c.nodes i) where
  -- node i's table, and what is known of it
  abbrev t : Table
  t = table_of (c.bytes i)

  abbrev W : World
  W = world c r.pushes r.acks

  t_sound : Sound t
  t_sound = sound_table (c.bytes i) (r.sound i ni)

  t_shaped : Shaped t
  t_shaped = sound_shaped (c.bytes i) (r.sound i ni)

  t_facts : Facts c.nodes t
  t_facts = r.inv.k1.facts i ni

  size : t.nodes ≡ c.nodes
  size = r.inv.k1.size i ni

  -- a call of a user: it goes on and settles
  user : (v : ℕ) (u : Table) (w : List ℕ) (ss : List State) → Left u →
      Went c.issued t (ss ++ c.issued) u → Reached (moved c i (done v u w) [] ss)
  user v u w ss s g =
      let d =
      done_of c.nodes c.issued (ss ++ c.issued) t g.mid size g.goes
      (subst (λ (z : Table). sound z ≡ true) g.is s.table) in
      lands c i v u w [] ss r.pushes r.acks r s
      (keeps W c.issued r.inv i ni (ss ++ c.issued) u Nobody (λ f j z. absurd z)
      (subst (λ (z : Table). Done Nobody c.nodes c.issued t (ss ++ c.issued) z) (sym g.is) d))
      r.letters

  -- a call that leaves the table: its messages and acknowledgements may be more
  still : (v : ℕ) (u : Table) (w : List ℕ) (ws : List (List ℕ)) (P : List Push) → Left u → u ≡ t →
      Inv (world c P r.acks) c.issued →
      ((m : List ℕ) → In m (ws ++ c.written) → Letter c.nodes P r.acks m) → Reached
      (moved c i (done v u w) ws [])
  still v u w ws P s e k l =
      lands c i v u w ws [] P r.acks r s
      (subst (λ (T : ℕ → Table). Inv (record { nodes = c.nodes; tab = T; pushes = P; acks = r.acks }) c.issued)
      (λ p j. sym (at j (eqb j i) refl) p) k)
      l
    where
      at : (j : ℕ) (b : Bool) → eqb j i ≡ b → cond b u (table_of (c.bytes j)) ≡ table_of (c.bytes j)
      at j true q = e ∙ ap (λ (m : ℕ). table_of (c.bytes m)) (sym (eqb-true _ _ q))
      at j false q = refl

  -- messages and acknowledgements that there were, among more
  wider : (P : List Push) (A : List Acknowledgement) → ((p : Push) → In p r.pushes → In p P) →
      ((a : Acknowledgement) → In a r.acks → In a A) → (m : List ℕ) → In m c.written → Letter c.nodes P A m
  wider P A x y m q =
      let l = r.letters m q in
      record { push = λ p e. x p (l.push p e); ack = λ a e. y a (l.ack a e) }

  -- ---- each call, accepted

  ready : Ready c.issued t
  ready = ready_of W c.issued r.inv i ni

  does : (k : Call) → Handed c k → (v : ℕ) (u : Table) (w : List ℕ) → Left u → answer_in k t ≡ done v u w →
      Reached (moved c i (done v u w) (sends k (done v u w)) (draws k t))
  does (creates now d kind name set) h v u w s e =
      user v u w (draws (creates now d kind name set) t) s
      (went_create c.issued c.nodes t ready t_facts now d kind name set u
      (creates_is t v u w now d kind name set e))
  does (unlinks now id) h v u w s e =
      user v u w (draws (unlinks now id) t) s
      (went_kill c.issued c.nodes t ready t_facts now id u (unlinks_is t v u w now id t_sound.root_first_law e))
  does (renames now id d name) h v u w s e =
      user v u w (draws (renames now id d name) t) s
      (went_rename c.issued c.nodes t ready t_facts now id d name u (renames_is t v u w now id d name e))
  does (removes now id) h v u w s e =
      user v u w (draws (removes now id) t) s
      (went_kill c.issued c.nodes t ready t_facts now id u (removes_is t v u w now id e))
  does (spreads id set) h v u w s e =
      user v u w [] s (went_spread c.issued c.nodes t ready t_facts id set u (spreads_is t v u w id set e))
  does (lists id room) h v u w s e =
      still v u w [] r.pushes s (list_same id room t v u w e) r.inv r.letters
  does (pushes id node room) h v u w s e =
      let k = writes_is t v u w id node room e in
      let p : Push = push_from t k.replica.head k.replica.version node in
      let b : read_push c.nodes (message_bytes p) ≡ some p =
      subst (λ (n : ℕ). read_push n (message_bytes p) ≡ some p) size
      (push_read_back t t_sound t_shaped id node k.replica k.found k.node (eqb-false _ _ k.other) k.pending) in
      still v u w (w ∷ []) (p ∷ r.pushes) s k.is
      (writes_keep W c.issued r.inv i ni id node k.replica k.found)
      (λ m q. letter p k.output b m (Memᴰ.cases_cons q))
    where
      letter : (p : Push) → w ≡ message_bytes p → read_push c.nodes (message_bytes p) ≡ some p → (m : List ℕ) →
          (m ≡ w) ⊎ In m c.written → Letter c.nodes (p ∷ r.pushes) r.acks m
      letter p o b m (inl q) =
          subst (λ (z : List ℕ). Letter c.nodes (p ∷ r.pushes) r.acks z) (sym (q ∙ o))
          (push_letter c.nodes r.pushes r.acks p b)
      letter p o b m (inr q) = wider (p ∷ r.pushes) r.acks (λ x j. Memᴰ.tail j) (λ x j. j) m q
  does (receives now message room) h v u w s e =
      let g = receives_is t v u w now message room e in
      let p : Push = g.0 in
      let k = takes_is t v u w now p g.2 in
      let b : read_push c.nodes message ≡ some p = subst (λ (n : ℕ). read_push n message ≡ some p) size g.1 in
      subst (λ (o : Option Push). Reached (moved c i (done v u w) (w ∷ []) (received_states now o t))) (sym g.1)
      (lands c i v u w (w ∷ []) (received_states now (some p) t) r.pushes (ack_for p ∷ r.acks) r s
      (takes_keep W c.issued r.inv i now p u w ni ((r.letters message h).push p b) k s.table)
      (λ m j. letter p k.output (push_read c.nodes t_facts.few message p b) m (Memᴰ.cases_cons j)))
    where
      letter : (p : Push) → w ≡ ack_bytes (ack_for p) → message_fits c.nodes p ≡ true → (m : List ℕ) →
          (m ≡ w) ⊎ In m c.written → Letter c.nodes r.pushes (ack_for p ∷ r.acks) m
      letter p o f m (inl q) =
          subst (λ (z : List ℕ). Letter c.nodes r.pushes (ack_for p ∷ r.acks) z) (sym (q ∙ o))
          (ack_letter c.nodes t_facts.few r.pushes r.acks p f)
      letter p o f m (inr q) = wider r.pushes (ack_for p ∷ r.acks) (λ x j. j) (λ x j. Memᴰ.tail j) m q
  does (hears message) h v u w s e =
      let g = acknowledges_is t v u w message e in
      let b : read_ack c.nodes message ≡ some g.0 =
      subst (λ (n : ℕ). read_ack n message ≡ some g.0) size g.1 in
      heard g.0 ((r.letters message h).ack g.0 b) (hears_is t v u w g.0 g.2)
    where
      heard : (a : Acknowledgement) → In a r.acks → Hears t u a → Reached (moved c i (done v u w) [] [])
      heard a m k =
          let x : Table = with_replicas t (clear a.id a.sender t.replicas) in
          let s' : Left x = subst Left k.is s in
          let k' : Hears t x a = subst (λ (z : Table). Hears t z a) k.is k in
          subst (λ (z : Table). Reached (moved c i (done v z w) [] [])) (sym k.is)
          (lands c i v x w [] [] r.pushes r.acks r s'
          (hears_keep W c.issued r.inv i ni a m k' s'.table) r.letters)
  does counts h v u w s e =
      still v u w [] r.pushes s (done_table _ v t u _ w e) r.inv r.letters

  -- ---- any call, accepted or refused

  -- a refused call sends nothing
  unsent : (k : Call) (n : ℕ) → sends k (refused n) ≡ []
  unsent (creates now d kind name set) n = refl
  unsent (unlinks now id) n = refl
  unsent (renames now id d name) n = refl
  unsent (removes now id) n = refl
  unsent (spreads id set) n = refl
  unsent (lists id room) n = refl
  unsent (pushes id node room) n = refl
  unsent (receives now message room) n = refl
  unsent (hears message) n = refl
  unsent counts n = refl

  pub makes : (k : Call) → Handed c k → Reached (after c i k)
  makes k h = go (answer k (c.bytes i)) refl
    where
      go : (o : Outcome) → answer k (c.bytes i) ≡ o →
          Reached (moved c i o (sends k o) (issues k o (table_of (c.bytes i))))
      go (refused n) e =
          subst (λ (ws : List (List ℕ)). Reached (moved c i (refused n) ws [])) (sym (unsent k n)) (stands c i n r)
      go (done v u w) e = does k h v u w (left k (c.bytes i) v u w e) (on_table k (c.bytes i) v u w e)
