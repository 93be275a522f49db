-- "For every call, every sound table and every number, the table that an accepted call leaves is sound": here for
-- receive, whatever the message. The steps in order, then what `settle` and the limits see to. Assumes nothing.
use Rattle.std.specs.Prelude.{◌≡◌, refl, true, false, List, [], ◌∷◌, ℕ, ◌≤◌}
use Rattle.std.proofs.Common.{ap, sym, subst, ◌∙◌}
use Rattle.std.proofs.Math.Option.{Option, some, none}
use Rattle.numbers.specs.Laws.{size_most}
use Rattle.records.specs.declared.head.Head.{Head}
use Rattle.slots.specs.declared.replica.Replica.{Replica}
use Rattle.messages.specs.Acknowledgements.{ack_bytes}
use Rattle.document.specs.Tables.{Table, head_of}
use Rattle.document.specs.Sound.{sound}
use Rattle.document.specs.Steps.{join_all, make_live, too_many, past_end}
use Rattle.document.specs.Messages.{Push, read_push}
use Rattle.document.specs.Receive.{step_a, with_own, make_missing, step_b, merged, step_c, taken, joins, step_f, received, ack_for}
use Rattle.document.specs.Outcomes.{done, all_passed}
use Rattle.document.specs.Calls.{if_push, take_refusals, take_in, receive_refusals, receive_in, receive}
use Rattle.views.specs.Joins.{join_all_same}
use Rattle.views.specs.Sounds.{Sound, LivePlaces, sound_is, is_sound}
use Rattle.kept.specs.Accepted.{accepted, judged_done, done_table, not_done}
use Rattle.kept.specs.Shapes.{Full}
use Rattle.kept.specs.Kept.{Keeps, Left, on_sound_law}
use Rattle.kept.specs.Firm.{Base, Firm, base_of, Carried, carried_same, carried_trans, carried_put}
use Rattle.kept.specs.Lives.{Mended}
use Rattle.kept.specs.Settled.{sound_settle}
use Rattle.kept.specs.MessageFacts.{MessageSays, TableAgrees, message_says, table_agrees}
use Rattle.kept.specs.ReceiveFull.{message_full, full_received}
use Rattle.kept.specs.ReceiveAbove.{Steady, steady_B}
use Rattle.kept.specs.ReceiveJoins.{after_E, shown_E}
use Rattle.kept.specs.ReceiveLive.{Lifted, live_16, mends, mended_all_law}

-- ---- versions and pending sets, up to (c)

carried_B : (hs : List Head) (t : Table) → Carried t (step_b hs t)
unfolding step_b
carried_B [] t = carried_same t t refl
carried_B (h ∷ hs) t = go (head_of (step_b hs t) h.id) (carried_B hs t)
  where
    go : (o : Option Head) → Carried t (step_b hs t) → Carried t (make_missing o h (step_b hs t))
    go none c = carried_trans t (step_b hs t) _ c (carried_put (with_own h (step_b hs t)) (step_b hs t))
    go (some o) c = c

carried_C : (p : Push) (t : Table) → Carried t (taken p t)
unfolding taken step_c step_a
carried_C p t =
    let a = step_a p t in
    let b = step_b p.above a in
    let h = merged (head_of b p.first.id) p.first b in
    carried_trans t b _ (carried_trans t a b (carried_same t a refl) (carried_B p.above a)) (carried_put h b)

-- ---- the table after (e), and after (f)

module _ (now : ℕ) (p : Push) (t : Table) where
  abbrev C : Table
  C = taken p t

  abbrev E : Table
  E = join_all (joins p t) (taken p t)

  abbrev M : Table
  M = step_f now (join_all (joins p t) (taken p t)).replicas (join_all (joins p t) (taken p t))

  steady : Steady (step_a p t) (step_b p.above (step_a p t))
  steady = steady_B p.above (step_a p t)

  nodes_E : E.nodes ≡ t.nodes
  unfolding taken step_c step_a
  nodes_E = (join_all_same (joins p t) C).nodes ∙ steady.nodes

  own_E : E.own ≡ t.own
  unfolding taken step_c step_a
  own_E = (join_all_same (joins p t) C).own ∙ steady.own

  carried_E : Carried t E
  carried_E = carried_trans t C E (carried_C p t) (carried_same C E (join_all_same (joins p t) C).replicas)

  base_E : Sound t → MessageSays t.nodes p → TableAgrees p t → Base E
  base_E k m a = after_E p t (base_of t k) m a

  pub sound_received : Sound t → MessageSays t.nodes p → TableAgrees p t → too_many (received now p t) ≡ false →
      past_end (received now p t) ≡ false → Sound (received now p t)
  unfolding received
  sound_received k m a few ends =
      sound_settle t M k (f.nodes ∙ nodes_E) (f.own ∙ own_E) firm
      (carried_trans t E M carried_E f.carried) few ends
    where
      live : Lifted E M × LivePlaces M
      live = mended_all_law now E (base_E k m a) (shown_E p t (base_of t k) m a k.shown)

      f : Mended E M
      f = live.0.mended

      firm : Firm M
      firm = record { base = f.base; live_places = live.1; shown = f.shown }

  -- whatever slots (f) has been through, the bound on making live does not cut: as many directories as d is deep, and
  -- any number above, give the same
  pub mending_16 : Sound t → MessageSays t.nodes p → TableAgrees p t → (l : List Replica) (d : ℕ) (h : Head)
      (k : ℕ) → head_of (step_f now l E) d ≡ some h → (h.id ≡ 0 → ⊥) → h.depth ≤ k →
      make_live 16 now d (step_f now l E) ≡ make_live k now d (step_f now l E)
  mending_16 s m a l d h k =
      let b = (mends now l E (base_E s m a) (shown_E p t (base_of t s) m a s.shown)).0.mended.base in
      live_16 k now d (step_f now l E) h b

-- ---- the call

pub take_sound : (now : ℕ) (t : Table) (m : List ℕ) (p : Push) (v : ℕ) (u : Table) (w : List ℕ) → sound t ≡ true →
    read_push t.nodes m ≡ some p → take_in now t p ≡ done v u w → sound u ≡ true
unfolding take_in
take_sound now t m p v u w ok read e =
    let k = sound_is t ok in
    let to = accepted _ _ _ v u w e in
    let odd = accepted _ _ _ v u w to.1 in
    let few = accepted _ _ _ v u w odd.1 in
    let ends = accepted _ _ _ v u w few.1 in
    let says = message_says t.nodes m p (size_most t.nodes k.size) read in
    ap sound (done_table 16 v (received now p t) u (ack_bytes (ack_for p)) w (sym (all_passed _) ∙ ends.1))
    ∙ is_sound (received now p t) (sound_received now p t k says (table_agrees p t odd.0) few.0 ends.0)

-- ---- over bytes

-- names stay full too
pub receive_keeps : (now : ℕ) (m : List ℕ) (room : ℕ) → Keeps (receive_in now m room)
unfolding receive_in take_in
receive_keeps now m room t ok full v u w e =
    go (read_push t.nodes m) refl (judged_done (receive_refusals now room) _ v u w e)
  where
    go : (o : Option Push) → read_push t.nodes m ≡ o → if_push o (take_in now t) ≡ done v u w →
        (sound u ≡ true) × Full u
    go none q r = absurd (not_done 4 v u w r)
    go (some p) q r =
        let z = done_table _ v (received now p t) u _ w (judged_done (take_refusals now t p) _ v u w r) in
        let names = message_full t.nodes m p (size_most t.nodes (sound_is t ok).size) q in
        (take_sound now t m p v u w ok q r, subst Full (sym z) (full_received now p t names full))

-- whatever the table's bytes, the message and the room: what an accepted receive leaves is sound, and so are its bytes
pub receive_left : (l : List ℕ) (now : ℕ) (m : List ℕ) (room v : ℕ) (u : Table) (w : List ℕ) →
    receive l now m room ≡ done v u w → Left u
receive_left l now m room v u w = on_sound_law l (receive_in now m room) (receive_keeps now m room) v u w
