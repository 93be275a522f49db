-- An instance: the first run of document 01 as a cluster of bytes. Two nodes start, move one file to two places while
-- the link is down, tell each other until nothing is pending, and so demand 3 holds of what they reach. The calls are
-- computed on tables, and what stands there in bytes follows. Assumes nothing.
use Rattle.std.specs.Prelude.{◌≡◌, refl, Bool, true, false, cond, List, [], ◌∷◌, ◌++◌, ℕ, zero, suc, length}
use Rattle.std.proofs.Common.{ap, sym, subst, ◌∙◌, arith, eq-eqb}
use Rattle.std.proofs.Math.Option.{Option, some, none}
use Rattle.codec.specs.Bytes.{chunk, le, bytes_of, zeros, same_bytes}
use Rattle.codec.specs.Lists.{every}
use Rattle.codec.specs.Laws.{length_zeros}
use Rattle.names.specs.Names.{same_name, is_text, is_name, name_from, name_bytes}
use Rattle.numbers.specs.Nodes.{is_size, is_node, has, single, join, without, members}
use Rattle.numbers.specs.Ids.{is_made, is_id, is_stamp, is_version}
use Rattle.records.specs.declared.head.Head.{Head}
use Rattle.records.specs.Heads.{head_bytes, head_of, head_in_range, head_fits, is_root, is_ordinary}
use Rattle.records.specs.Entries.{entry_bytes, entry_of, entry_in_range, entry_fits}
use Rattle.messages.specs.Acknowledgements.{ack_bytes, ack_of, ack_in_range, ack_fits}
use Rattle.messages.specs.PushHeaders.{push_bytes, push_of, push_in_range, push_fits}
use Rattle.document.specs.Tables.{Table, table_size, table_of, table_bytes, fresh, first, head_of as head, entries_of, rows, slots_from, every_slot}
use Rattle.document.specs.Sound.{read_sound, distinct}
use Rattle.document.specs.Steps.{join_into, put_head, set_by, join_all, odd_all, issue, same_entries, settle_all, settle, relive, make_live, too_many, past_end}
use Rattle.document.specs.Messages.{message_bytes, message_of, message_in_range, chained, hangs_together, read_push, read_ack, chain_up, push_from}
use Rattle.document.specs.Receive.{highest, step_a, step_b, step_c, set_above, step_f, taken, received, odd}
use Rattle.document.specs.Outcomes.{Outcome, refused, done, number_of, value_of, table_after, judged}
use Rattle.document.specs.Calls.{if_sound, on_sound, start, name_taken, any_shown, live_child, created, create_in, killed, renamed, rename_in, remove_in, push_in, take_in, receive_in, clear, clear_in, pending, pending_sum}
use Rattle.views.specs.Lists.{In}
use Rattle.kept.specs.Kept.{Left, start_left}
use Rattle.kept.specs.Accepted.{table_in}
use Rattle.cluster.specs.Cluster.{Node, Cluster, Call, creates, renames, pushes, receives, hears, counts, answer, sends, Handed, after, begun, Later, same, starts, more, idle, Started, Quiet, Agreed}
use Rattle.cluster.specs.Accepted.{answer_in, answer_in_law}
use Rattle.cluster.specs.Reached.{table_back}
use Rattle.cluster.proofs.Makes.{left}
use Rattle.cluster.proofs.Theorem.{demand_3}
use mathlib.Core.List.Memᴰ

-- ---- calls on tables

-- on the bytes of a sound table
at_table : (f : Table → Outcome) (t : Table) → Left t → on_sound (table_bytes t) f ≡ f t
unfolding read_sound
at_table f t s =
    ap (λ (b : Bool). if_sound (cond b (some (table_of (table_bytes t))) none) f) s.bytes ∙ ap f (table_back t s)

-- ---- two nodes, as tables, and the messages written

record Two : Type 0 where
  one : Table
  two : Table
  written : List (List ℕ)

-- the first node's call, or the second's
unfoldable act : Bool → Call → Two → Two
act true k s =
    let o = answer_in k s.one in
    record { one = table_in s.one o; two = s.two; written = sends k o ++ s.written }
act false k s =
    let o = answer_in k s.two in
    record { one = s.one; two = table_in s.two o; written = sends k o ++ s.written }

-- what they do: a call of a user, a push, and taking the message written last, as a push or as an acknowledgement
data Deed : Type 0 where
  make : (now d kind : ℕ) (name : List ℕ) → Deed
  move : (now id d : ℕ) (name : List ℕ) → Deed
  push : (id node : ℕ) → Deed
  take : (now : ℕ) → Deed
  hear : Deed

-- each holds what it makes on both nodes
abbrev call_of : Deed → List (List ℕ) → Call
call_of (make now d kind name) ms = creates now d kind name 3
call_of (move now id d name) ms = renames now id d name
call_of (push id node) ms = pushes id node 1640
call_of (take now) [] = counts
call_of (take now) (m ∷ ms) = receives now m 16
call_of hear [] = counts
call_of hear (m ∷ ms) = hears m

record Turn : Type 0 where
  first : Bool
  deed : Deed

unfoldable run : List Turn → Two → Two
run [] s = s
run (d ∷ ds) s = run ds (act d.first (call_of d.deed s.written) s)

-- ---- the same in bytes

abbrev node_of : Bool → ℕ
node_of true = 1
node_of false = 2

unfoldable run_in : List Turn → Cluster → Cluster
run_in [] c = c
run_in (d ∷ ds) c = run_in ds (after c (node_of d.first) (call_of d.deed c.written))

-- the cluster stands as the two tables say
record Stands (c : Cluster) (s : Two) : Type 0 where
  nodes : c.nodes ≡ 2
  started : Started c
  written : c.written ≡ s.written
  one : c.bytes 1 ≡ table_bytes s.one
  two : c.bytes 2 ≡ table_bytes s.two
  left_one : Left s.one
  left_two : Left s.two

after_in : (o : Outcome) (t : Table) → table_after o (table_bytes t) ≡ table_bytes (table_in t o)
after_in (refused k) t = refl
after_in (done v u w) t = refl

-- a call on bytes, and the table that it leaves
module _ (l : List ℕ) (t : Table) (e : l ≡ table_bytes t) (s : Left t) (k : Call) where
  same_answer : answer k l ≡ answer_in k t
  same_answer = answer_in_law k l ∙ ap (λ (x : List ℕ). on_sound x (answer_in k)) e ∙ at_table (answer_in k) t s

  same_after : table_after (answer k l) l ≡ table_bytes (table_in t (answer_in k t))
  same_after =
      ap (λ (o : Outcome). table_after o l) same_answer ∙ ap (table_after (answer_in k t)) e ∙ after_in (answer_in k t) t

  left_after : Left (table_in t (answer_in k t))
  left_after = go (answer_in k t) same_answer
    where
      go : (o : Outcome) → answer k l ≡ o → Left (table_in t o)
      go (refused n) q = s
      go (done v u w) q = left k l v u w q

acts : (c : Cluster) (s : Two) (b : Bool) (k : Call) → Stands c s → Stands (after c (node_of b) k) (act b k s)
unfolding act
acts c s true k x =
    let a = same_answer (c.bytes 1) s.one x.one x.left_one k in
    record {
      nodes = x.nodes;
      started = x.started;
      written =
          ap (λ (o : Outcome). sends k o ++ c.written) a ∙ ap
          (λ (l : List (List ℕ)). sends k (answer_in k s.one) ++ l) x.written;
      one = same_after (c.bytes 1) s.one x.one x.left_one k;
      two = x.two;
      left_one = left_after (c.bytes 1) s.one x.one x.left_one k;
      left_two = x.left_two;
    }
acts c s false k x =
    let a = same_answer (c.bytes 2) s.two x.two x.left_two k in
    record {
      nodes = x.nodes;
      started = x.started;
      written =
          ap (λ (o : Outcome). sends k o ++ c.written) a ∙ ap
          (λ (l : List (List ℕ)). sends k (answer_in k s.two) ++ l) x.written;
      one = x.one;
      two = same_after (c.bytes 2) s.two x.two x.left_two k;
      left_one = x.left_one;
      left_two = left_after (c.bytes 2) s.two x.two x.left_two k;
    }

-- the message written last was written
was_written : (d : Deed) (c : Cluster) (ms : List (List ℕ)) → c.written ≡ ms → Handed c (call_of d ms)
was_written (make now d kind name) c ms e = tt
was_written (move now id d name) c ms e = tt
was_written (push id node) c ms e = tt
was_written (take now) c [] e = tt
was_written (take now) c (m ∷ ms) e = subst (λ (l : List (List ℕ)). In m l) (sym e) (Memᴰ.head refl)
was_written hear c [] e = tt
was_written hear c (m ∷ ms) e = subst (λ (l : List (List ℕ)). In m l) (sym e) (Memᴰ.head refl)

is_node_law : (b : Bool) → Node 2 (node_of b)
is_node_law true = (omega arith, omega arith)
is_node_law false = (omega arith, omega arith)

-- what they reach, in bytes and as tables
record Ran (b c : Cluster) (s : Two) : Type 0 where
  reached : Later b c
  stands : Stands c s

ran : (ds : List Turn) (b c : Cluster) (s : Two) → Ran b c s → Ran b (run_in ds c) (run ds s)
unfolding run run_in
ran [] b c s r = r
ran (d ∷ ds) b c s r =
    let i : ℕ = node_of d.first in
    let k : Call = call_of d.deed c.written in
    let x = r.stands in
    let ni : Node c.nodes i = subst (λ (n : ℕ). Node n i) (sym x.nodes) (is_node_law d.first) in
    let next : Stands (after c i k) (act d.first (call_of d.deed s.written) s) =
    subst (λ (ms : List (List ℕ)). Stands (after c i k) (act d.first (call_of d.deed ms) s)) x.written
    (acts c s d.first k x) in
    ran ds b (after c i k) (act d.first (call_of d.deed s.written) s)
    (record {
      reached = more r.reached i k ni (x.started i ni) (was_written d.deed c c.written refl);
      stands = next;
    })

-- ---- both have started

start_done : (l : List ℕ) (i n : ℕ) → length l ≡ table_size → is_size n ≡ true → is_node n i ≡ true →
    start l i n ≡ done 0 (fresh i n) []
unfolding start judged
start_done l i n e s m = rw (eq-eqb (length l) table_size e, s, m)

module _ (lent : ℕ → List ℕ) (sized : (i : ℕ) → length (lent i) ≡ table_size) where
  abbrev C₀ : Cluster
  C₀ = idle 2 lent

  abbrev C₁ : Cluster
  C₁ = begun (begun (idle 2 lent) 1) 2

  start_one : start (lent 1) 1 2 ≡ done 0 (fresh 1 2) []
  start_one = start_done (lent 1) 1 2 (sized 1) refl refl

  start_two : start (lent 2) 2 2 ≡ done 0 (fresh 2 2) []
  start_two = start_done (lent 2) 2 2 (sized 2) refl refl

  abbrev S₀ : Two
  S₀ = record { one = fresh 1 2; two = fresh 2 2; written = [] }

  both : Ran C₀ C₁ S₀
  both =
      record {
        reached =
            starts
            (starts same 1 (is_node_law true) refl (ap number_of start_one)) 2 (is_node_law false) refl (ap number_of start_two);
        stands =
            record {
              nodes = refl;
              started = awake;
              written = refl;
              one = ap (λ (o : Outcome). table_after o (lent 1)) start_one;
              two = ap (λ (o : Outcome). table_after o (lent 2)) start_two;
              left_one = start_left (lent 1) 0 (fresh 1 2) [] 1 2 start_one;
              left_two = start_left (lent 2) 0 (fresh 2 2) [] 2 2 start_two;
            };
      }
    where
      awake : (i : ℕ) → Node 2 i → (begun (begun (idle 2 lent) 1) 2).started i ≡ true
      awake zero ni = absurd (omega (arith, ni.0))
      awake (suc zero) ni = refl
      awake (suc (suc zero)) ni = refl
      awake (suc (suc (suc i))) ni = absurd (omega (arith, ni.1))

-- ---- "Run: N 2, nodes hold all. Node 1 makes /alice (now 1) and /foo (2); node 2, once quiet, /bob (3). Quiet again;
-- at 12 node 1 moves foo to /alice/foo1 and node 2 to /bob/foo2."

abbrev alice : ℕ
alice = 16777217

abbrev foo : ℕ
foo = 16777218

abbrev bob : ℕ
bob = 33554433

abbrev by : Bool → Deed → Turn
by b d = record { first = b; deed = d }

-- one tells the other of a file, and is answered
abbrev tell : ℕ → Bool → ℕ → List Turn → List Turn
tell now true id ds = by true (push id 2) ∷ by false (take now) ∷ by true hear ∷ ds
tell now false id ds = by false (push id 1) ∷ by true (take now) ∷ by false hear ∷ ds

unfoldable tell_all : ℕ → Bool → List ℕ → List Turn → List Turn
tell_all now b [] ds = ds
tell_all now b (id ∷ ids) ds = tell now b id (tell_all now b ids ds)

-- each tells the other of all, k times
unfoldable rounds : ℕ → ℕ → List ℕ → List Turn → List Turn
rounds zero now ids ds = ds
rounds (suc k) now ids ds = tell_all now true ids (tell_all now false ids (rounds k now ids ds))

unfoldable schedule : List Turn
schedule =
    by true (make 1 0 2 (97 ∷ 108 ∷ 105 ∷ 99 ∷ 101 ∷ []))
    ∷ by true (make 2 0 1 (102 ∷ 111 ∷ 111 ∷ []))
    ∷ rounds 2 2 (0 ∷ alice ∷ foo ∷ [])
    (by false (make 3 0 2 (98 ∷ 111 ∷ 98 ∷ []))
    ∷ rounds 2 3 (0 ∷ alice ∷ foo ∷ bob ∷ [])
    (by true (move 12 foo alice (102 ∷ 111 ∷ 111 ∷ 49 ∷ []))
    ∷ by false (move 12 foo bob (102 ∷ 111 ∷ 111 ∷ 50 ∷ []))
    ∷ rounds 3 12 (0 ∷ alice ∷ foo ∷ bob ∷ []) []))

unfoldable ended : Two
ended = run schedule (record { one = fresh 1 2; two = fresh 2 2; written = [] })

-- "At quiet: foo has 3074 at /bob/foo2"
abbrev state_of? : Option Head → List ℕ
state_of? none = []
state_of? (some h) = h.stamp ∷ h.live ∷ h.directory ∷ name_bytes h.name

pub record FirstRun (t : Table) : Type 0 where
  pub quiet : pending_sum t.replicas ≡ 0
  pub state : state_of? (head t foo) ≡ 3074 ∷ 1 ∷ bob ∷ name_bytes (name_from (102 ∷ 111 ∷ 111 ∷ 50 ∷ []))

ended_one : FirstRun ended.one
unfolding ended run act schedule rounds tell_all chunk le bytes_of same_bytes every same_name is_text is_name name_from has single join without members is_made is_id is_stamp is_version head_bytes head_of head_in_range head_fits is_root is_ordinary entry_bytes entry_of entry_in_range entry_fits ack_bytes ack_of ack_in_range ack_fits push_bytes push_of push_in_range push_fits fresh first entries_of rows slots_from every_slot distinct join_into put_head set_by join_all odd_all issue same_entries settle_all settle relive make_live too_many past_end message_bytes message_of message_in_range chained hangs_together read_push read_ack chain_up push_from highest step_a step_b step_c set_above step_f taken received odd judged name_taken any_shown live_child created create_in killed renamed rename_in remove_in push_in take_in receive_in clear clear_in pending_sum
ended_one = record { quiet = refl; state = refl }

ended_two : FirstRun ended.two
unfolding ended run act schedule rounds tell_all chunk le bytes_of same_bytes every same_name is_text is_name name_from has single join without members is_made is_id is_stamp is_version head_bytes head_of head_in_range head_fits is_root is_ordinary entry_bytes entry_of entry_in_range entry_fits ack_bytes ack_of ack_in_range ack_fits push_bytes push_of push_in_range push_fits fresh first entries_of rows slots_from every_slot distinct join_into put_head set_by join_all odd_all issue same_entries settle_all settle relive make_live too_many past_end message_bytes message_of message_in_range chained hangs_together read_push read_ack chain_up push_from highest step_a step_b step_c set_above step_f taken received odd judged name_taken any_shown live_child created create_in killed renamed rename_in remove_in push_in take_in receive_in clear clear_in pending_sum
ended_two = record { quiet = refl; state = refl }

-- ---- whatever bytes the two lent, the run is one of the cluster's, it ends quiet, and demand 3 holds of it

-- each node has one of the two tables
each : (P : List ℕ → Type 0) (c : Cluster) (s : Two) → Stands c s → P (table_bytes s.one) → P (table_bytes s.two) →
    (i : ℕ) →
    Node c.nodes i → P (c.bytes i)
each P c s x a b i ni = go i (subst (λ (n : ℕ). Node n i) x.nodes ni)
  where
    go : (i : ℕ) → Node 2 i → P (c.bytes i)
    go zero ni = absurd (omega (arith, ni.0))
    go (suc zero) ni = subst P (sym x.one) a
    go (suc (suc zero)) ni = subst P (sym x.two) b
    go (suc (suc (suc i))) ni = absurd (omega (arith, ni.1))

pending_is : (t : Table) → Left t → value_of (pending (table_bytes t)) ≡ pending_sum t.replicas
pending_is t s = ap value_of (same_answer (table_bytes t) t refl s counts)

pub record Instance (lent : ℕ → List ℕ) (c : Cluster) : Type 0 where
  pub reached : Later (idle 2 lent) c
  pub started : Started c
  pub quiet : Quiet c
  pub agreed : Agreed c
  pub shows : (i : ℕ) → Node c.nodes i → FirstRun (table_of (c.bytes i))

pub first_run : (lent : ℕ → List ℕ) → ((i : ℕ) → length (lent i) ≡ table_size) → (c : Cluster) × Instance lent c
unfolding ended
first_run lent sized =
    let c : Cluster = run_in schedule (begun (begun (idle 2 lent) 1) 2) in
    let r : Ran (idle 2 lent) c ended = ran schedule (idle 2 lent) _ _ (both lent sized) in
    let x = r.stands in
    let q : Quiet c =
    each (λ (l : List ℕ). value_of (pending l) ≡ 0) c ended x (pending_is ended.one x.left_one ∙ ended_one.quiet)
    (pending_is ended.two x.left_two ∙ ended_two.quiet) in (
      c,
      record {
        reached = r.reached;
        started = x.started;
        quiet = q;
        agreed = demand_3 2 lent c r.reached x.started q;
        shows =
            each (λ (l : List ℕ). FirstRun (table_of l)) c ended x
            (subst FirstRun (sym (table_back ended.one x.left_one)) ended_one)
            (subst FirstRun (sym (table_back ended.two x.left_two)) ended_two);
      },
    )

-- such bytes there are
pub first_run_there : (c : Cluster) × Instance (λ (i : ℕ). zeros table_size) c
first_run_there = first_run (λ (i : ℕ). zeros table_size) (λ i. length_zeros table_size)
