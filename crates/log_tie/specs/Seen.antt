-- How the log that its owner writes is seen in the abstract state of its log.
use Rattle.std.specs.Prelude.{◌≡◌, ℕ, suc, ◌+◌, ◌-◌, ◌<◌, true, false, List, [], ◌∷◌, Option, Some, None, length, ◌⊎◌}
use Rattle.xfs_base.specs.declared.fragment.Fragment.{Fragment}
use Rattle.xfs_base.specs.declared.segment.LogId.{LogId}
use Rattle.xfs_base.specs.declared.segment.SegName.{SegName}
use Rattle.segment_format.specs.declared.segment.Segment.{Segment}
use Rattle.segment_format.specs.Text.{text_of}
use Rattle.group_map.specs.declared.group.Member.{Member}
use Rattle.log_flight.specs.Flights.{FlightState, generation_of, is_noted, server_of}
use Rattle.client_log.specs.declared.output.Out.{Out}
use Rattle.client_log.specs.declared.output.Out.TheVariants.{Send, Settled}
use Rattle.client_log.specs.LogState.{LogState}
use Rattle.log_protocol.specs.Phase
use Rattle.log_protocol.specs.Packets.{StorePacket, StoredPacket, FragmentPacket, FencedPacket}
use Rattle.log_protocol.specs.State.{State}
use Rattle.log_protocol.specs.Step.{Steps}
use Rattle.log_protocol.specs.Tables.{In}
use Rattle.log_tie.specs.Setting.{Setting, stripe_of_group, present_at, name_of, point, fragment_of, IsMap}

abbrev pub members_of : Setting → Segment → List Member
members_of g s = (g.stripe s.group).members

-- A booked name is the name of a segment: what the book says of it.
pub record Page (g : Setting) (x : ℕ) (s : Segment) (text count : ℕ) (server generation : ℕ → ℕ) (prior content : ℕ) : Type 0 where
  pub named : s.name ≡ name_of g x
  pub boot : 0 < s.name.pass.inc
  pub spelled : text ≡ g.number (text_of s)
  pub counted : count ≡ length (members_of g s)
  pub at_server : (j : ℕ) → server j ≡ server_of (members_of g s) j
  pub at_generation : (j : ℕ) → j < length (members_of g s) → generation j ≡ generation_of (members_of g s) j
  pub follows : prior ≡ point g (s.name.seq - 1) s.prior.pass
  pub tells : content ≡ g.content s.items

-- the book: of each booked name the segment
abbrev pub Book : Setting → State → (ℕ → Segment) → Type 0
Book g w book =
    (x : ℕ) → w.booked x ≡ 1 → Page g x (book x) (w.text_of x) (w.member_count x) (w.member_server x) (w.member_generation x) (w.prior_of x) (w.content_of x)

-- a segment in flight
pub record Flying (g : Setting) (book : ℕ → Segment) (f : FlightState) (inc seq booked flight : ℕ) (noted : ℕ → ℕ) : Type 0 where
  pub some : 0 < flight
  pub is_booked : booked ≡ 1
  pub segment : f.segment ≡ book flight
  pub stripe : stripe_of_group f.group ≡ g.stripe (book flight).group
  pub own : (book flight).name.pass.inc ≡ inc
  pub next : (book flight).name.seq ≡ seq + 1
  pub notes : (i : ℕ) → is_noted f.noted i ≡ true → noted i ≡ 1

abbrev pub FlightShown : Setting → (ℕ → Segment) → Option FlightState → ℕ → ℕ → ℕ → ℕ → (ℕ → ℕ) → Type 0
FlightShown g book None inc seq booked flight noted = flight ≡ 0
FlightShown g book (Some f) inc seq booked flight noted = Flying g book f inc seq booked flight noted

-- What holds of a log in each phase in which it writes.
pub record Writes (g : Setting) (w : State) (s : LogState) : Type 0 where
  pub log : s.log ≡ g.log
  pub inc : s.inc ≡ w.incarnation
  pub some : 0 < s.inc
  pub map : IsMap g s.groups
  pub known : (v : ℕ) → w.owner_generation v ≡ present_at s.groups v

-- The log of an owner that serves.
pub record Serves (g : Setting) (w : State) (book : ℕ → Segment) (s : LogState) : Type 0 where
  pub writes : Writes g w s
  pub phase : w.phase ≡ Phase.serving
  pub end : w.end ≡ point g s.end.seq s.end.pass
  pub end_seq : g.seq_of w.end ≡ s.end.seq
  pub flight : FlightShown g book s.flight s.inc s.end.seq (w.booked w.flight) w.flight w.noted

-- a Store that was sent
pub record StoreSeen (g : Setting) (booked : ℕ → ℕ) (book : ℕ → Segment) (stores : List StorePacket) (to : ℕ) (f : Fragment) (generation : ℕ) : Type 0 where
  pub name : ℕ
  pub index : ℕ
  pub known : booked name ≡ 1
  pub named : f.meta.name ≡ name_of g name
  pub fragment : f ≡ fragment_of g (book name) index
  pub sent : In (record { to = to; name = name; index = index; generation = generation; text = g.number (text_of (book name)) }) stores

-- what the log gives: its Stores are sent, and a settled segment is filed
abbrev pub Said : Setting → (ℕ → ℕ) → (ℕ → Segment) → List StorePacket → (ℕ → ℕ) → Out → Type 0
Said g booked book stores filed (Send f m) = StoreSeen g booked book stores m.server f m.generation
Said g booked book stores filed (Settled end rows) = (x : ℕ) × (filed x ≡ 1) × (end.seq ≡ g.seq_of x) × (end.pass ≡ (name_of g x).pass)

abbrev pub AllSaid : Setting → (ℕ → ℕ) → (ℕ → Segment) → List StorePacket → (ℕ → ℕ) → List Out → Type 0
AllSaid g booked book stores filed [] = Unit {0}
AllSaid g booked book stores filed (o ∷ os) = Said g booked book stores filed o × AllSaid g booked book stores filed os

-- what the log files
abbrev pub log_filed : LogId → List Out → List SegName
log_filed l [] = []
log_filed l (Send f m ∷ os) = log_filed l os
log_filed l (Settled end rows ∷ os) = record { log = l; seq = end.seq; pass = end.pass } ∷ log_filed l os

-- what the owner's steps leave as it was
pub record Others : Type 0 where
  pub servers : ℕ
  pub seq_of : ℕ → ℕ
  pub incarnation_of : ℕ → ℕ
  pub attempt_of : ℕ → ℕ
  pub generation : ℕ → ℕ
  pub registry_generation : ℕ → ℕ
  pub holds : ℕ → ℕ → ℕ
  pub kept_index : ℕ → ℕ → ℕ
  pub marked : ℕ → ℕ → ℕ
  pub dropped : ℕ → ℕ
  pub storeds : List StoredPacket
  pub fragments : List FragmentPacket
  pub fenceds : List FencedPacket
  pub low : ℕ
  pub incarnation : ℕ

abbrev pub others_of : State → Others
others_of w = record {
  servers = w.servers;
  seq_of = w.seq_of;
  incarnation_of = w.incarnation_of;
  attempt_of = w.attempt_of;
  generation = w.generation;
  registry_generation = w.registry_generation;
  holds = w.holds;
  kept_index = w.kept_index;
  marked = w.marked;
  dropped = w.dropped;
  storeds = w.storeds;
  fragments = w.fragments;
  fenceds = w.fenceds;
  low = w.low;
  incarnation = w.incarnation;
}

-- Only the owner stepped: all else is as it was, booked names keep their segments, what was sent or filed is so, and where no restart is doubtful the line is
-- as trusted as before.
pub record ByOwner (g : Setting) (w v : State) (book later : ℕ → Segment) : Type 0 where
  pub others : others_of v ≡ others_of w
  pub booked : (x : ℕ) → w.booked x ≡ 1 → v.booked x ≡ 1
  pub segment : (x : ℕ) → w.booked x ≡ 1 → later x ≡ book x
  pub stores : (p : StorePacket) → In p w.stores → In p v.stores
  pub filed : (x : ℕ) → w.filed x ≡ 1 → v.filed x ≡ 1
  pub calm : g.doubts ≡ false → w.clean ≡ 1 → v.clean ≡ 1

-- the end stays, or is what was filed
abbrev pub EndFollows : Setting → State → State → List Out → Type 0
EndFollows g w v outs = (v.end ≡ w.end) ⊎ In (name_of g v.end) (log_filed g.log outs)

-- what was booked is what is in flight now
abbrev pub BooksItsFlight : State → State → Type 0
BooksItsFlight w v = (x : ℕ) → v.booked x ≡ 1 → (w.booked x ≡ 1) ⊎ (x ≡ v.flight)

-- By steps of the owner the state becomes one in which P holds, with a book, and in which what is given was sent.
pub record Goes (g : Setting) (w : State) (book : ℕ → Segment) (P : State → (ℕ → Segment) → Type 0) (outs : List Out) : Type 0 where
  pub world : State
  pub later : ℕ → Segment
  pub steps : Steps w world
  pub frame : ByOwner g w world book later
  pub fresh : BooksItsFlight w world
  pub paged : Book g world later
  pub shows : P world later
  pub said : AllSaid g world.booked later world.stores world.filed outs
  pub end_follows : EndFollows g w world outs

-- what is known of every state that a run of machines shows
pub record Fixed (g : Setting) (w : State) : Type 0 where
  pub servers : w.servers ≡ suc g.servers
  pub seq_of : w.seq_of ≡ g.seq_of
  pub incarnation_of : w.incarnation_of ≡ g.incarnation_of
  pub attempt_of : w.attempt_of ≡ g.attempt_of
