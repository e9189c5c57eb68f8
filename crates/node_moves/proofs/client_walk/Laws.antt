-- What a law of a client that serves shows of the few things that it does and says; the walk has it then of all that comes to it, of time, and of the calls that
-- it makes.
use Rattle.std.proofs.Common.{◌≡◌, ℕ, List, [], ◌∷◌, Option, Some, None, refl}
use Rattle.std.specs.List.{AllByRecursion}
use Rattle.std.specs.Prelude.{IfSome}
use Rattle.client_call.specs.declared.call.Call.{Call}
use Rattle.client_call.specs.Reads.{reading_in, target_of}
use Rattle.client_log.specs.declared.input.In.{In as LogIn}
use Rattle.client_log.specs.LogState.{LogState}
use Rattle.client_log.specs.Transition as log
use Rattle.client_log.specs.Transition.{end_of}
use Rattle.client_serving.specs.declared.lasting.Lasting.{Lasting}
use Rattle.client_serving.specs.declared.serving.Serving.{Serving}
use Rattle.client_serving.specs.Flights.{feeds}
use Rattle.client_serving.specs.Grants.{send_supply}
use Rattle.client_serving.specs.Lasting.{log_of}
use Rattle.client_serving.specs.Reads.{group_in}
use Rattle.client_serving.specs.Sends.{want, gave, report}
use Rattle.coop_cache.specs.CacheState.{CacheState}
use Rattle.delta_feed.specs.Transition.{acknowledged, new_epoch}
use Rattle.group_map.specs.declared.group.Group.{Group}
use Rattle.group_map.specs.declared.group.Member.{Member}
use Rattle.group_map.specs.GroupMapState.{GroupMapState}
use Rattle.log_flight.specs.Flights.{FlightState}
use Rattle.log_owner.specs.declared.promised.Managers.{Managers}
use Rattle.log_owner.specs.Sending.{fetch, hello, name_of, sending_push, push_all, store}
use Rattle.node_base.specs.declared.effects.Effect.{Effect}
use Rattle.node_base.specs.declared.effects.Effect.TheVariants.{Answer as Answers, Lose, Does}
use Rattle.node_base.specs.Asking.{next_ask}
use Rattle.node_base.specs.Maps.{maps_take}
use Rattle.segment_format.specs.Rows.{rows_of}
use Rattle.segment_reading.specs.declared.target.Target.{Target}
use Rattle.segment_reading.specs.Reading.{ReadingState, reading_start, reading_take, on_confirmed}
use Rattle.stripe_code.specs.declared.round.Told.{Told}
use Rattle.stripe_code.specs.declared.round.Told.TheVariants as told
use Rattle.token_client.specs.declared.input.In.{In}
use Rattle.token_client.specs.declared.input.In.TheVariants as input
use Rattle.token_client.specs.declared.output.Out.{Out}
use Rattle.token_client.specs.declared.output.Out.TheVariants as output
use Rattle.token_client.specs.State.{TokensState}
use Rattle.token_client.specs.Transition as client
use Rattle.version_model.specs.declared.act.Act.TheVariants.{Filed, Read, Synced, Wrote}
use Rattle.version_model.specs.declared.answer.Answer.{Answer}
use Rattle.wire_msg.specs.declared.body.Body.{Body}
use Rattle.wire_msg.specs.declared.body.Body.TheVariants as body
use Rattle.wire_msg.specs.declared.registry.News.{News}
use Rattle.wire_msg.specs.declared.tokens.Forward.{Forward}
use Rattle.wire_msg.specs.declared.tokens.Grant.{Grant}
use Rattle.xfs_base.specs.declared.block.BlockId.{BlockId}
use Rattle.xfs_base.specs.declared.entry.Entry.{Entry}
use Rattle.xfs_base.specs.declared.fragment.Fragment.{Fragment}
use Rattle.xfs_base.specs.declared.node.NodeId.{NodeId}
use Rattle.xfs_base.specs.declared.node.NodeId.TheVariants as node
use Rattle.xfs_base.specs.declared.segment.End.{End}
use Rattle.xfs_base.specs.declared.segment.SegName.{SegName}
use Rattle.xfs_base.specs.declared.token.Mode.{Mode}
use Rattle.xfs_base.specs.declared.token.Stamp.{Stamp}

-- what is known of an input of the tokens: of a grant, what it tells of the block
abbrev pub Takes : (BlockId → Entry → Type 0) → In → Type 0
Takes granted (input.Granted block stamp inc req mode entry) = granted block entry
Takes granted _ = Unit {0}

-- what is known of what the tokens say: of a block to be read, where it lies
abbrev pub Tells : (Target → Type 0) → Out → Type 0
Tells lies (output.Read block place) = lies (target_of block place)
Tells lies _ = Unit {0}

-- of a server it is known so
abbrev pub OfServer : (ℕ → Type 0) → NodeId → Type 0
OfServer so (node.Server server) = so server
OfServer so _ = Unit {0}

-- where all is known to lie where it is read, so it is of what the tokens say; and where each reading is so, one that there may be
pub all_tell : (lies : Target → Type 0) → ((target : Target) → lies target) → (outs : List Out) → AllByRecursion (Tells lies) outs
all_tell lies each [] = tt
all_tell lies each (output.Read block place ∷ outs) = (each (target_of block place), all_tell lies each outs)
all_tell lies each (output.Want block req again mode ∷ outs) = (tt, all_tell lies each outs)
all_tell lies each (output.Gave block stamp ∷ outs) = (tt, all_tell lies each outs)
all_tell lies each (output.Flush block ∷ outs) = (tt, all_tell lies each outs)
all_tell lies each (output.Ready block ∷ outs) = (tt, all_tell lies each outs)
all_tell lies each (output.Supply block ver value ∷ outs) = (tt, all_tell lies each outs)

pub all_read : (reading : ReadingState → Type 0) → ((r : ReadingState) → reading r) → (r : Option ReadingState) → IfSome r reading
all_read reading each None = tt
all_read reading each (Some r) = each r

pub record Walk : Type 1 where
  -- what stands of a client, what is so of each effect, and what is known of one that it acts
  pub Stands : Serving → Type 0
  pub Says : Effect → Type 0
  pub Acted : Effect → Type 0
  -- what is known of what a grant tells, of what a server told in answer to a question, and of groups that maps tell
  pub Granted : BlockId → Entry → Type 0
  pub Came : ℕ → ℕ → Told → Type 0
  pub Mapped : GroupMapState → Type 0
  -- what is known of what is to be read, of a reading, of a segment that is settled, and of the log before the event
  pub Lies : Target → Type 0
  pub Reading : ReadingState → Type 0
  pub Landed : End → List (BlockId × Entry) → Type 0
  pub Owed : Lasting → LogState → Type 0
  -- ---- a part of it changes
  pub tokens : (s : Serving) (i : In) → Takes Granted i → Stands s → Stands (record s { tokens = (client.transition s.tokens i).state })
  pub tells : (its : TokensState) (i : In) → Takes Granted i → AllByRecursion (Tells Lies) (client.transition its i).outs
  pub caches : (s : Serving) (cache : CacheState) → Stands s → Stands (record s { cache = cache })
  pub maps : (s : Serving) (news : News) → Mapped news.groups → Stands s → Stands (record s { maps = maps_take s.maps news })
  pub managed : (s : Serving) (managers : Managers) → Stands s → Stands (record s { managers = managers })
  pub lasts : (s : Serving) (l : Lasting) → l.number ≡ s.lasting.number → Stands s → Stands (record s { lasting = l })
  pub calls : (s : Serving) (call : Option Call) → IfSome (reading_in call) Reading → Stands s → Stands (record s { call = call })
  pub reads : (s : Serving) → Stands s → IfSome (reading_in s.call) Reading
  pub begun : (s : Serving) (target : Target) (group : Group) → group_in s.maps.groups target.seg.group ≡ Some group → Lies target → Stands s
      → Reading (reading_start target group (next_ask s.lasting.questions))
  pub confirmed : (r : ReadingState) (ask : ℕ) → Reading r → Reading (on_confirmed r ask).state
  pub answered : (r : ReadingState) (groups : GroupMapState) (ask server : ℕ) (t : Told) → Came ask server t → Reading r
      → Reading (reading_take r groups ask server t).state
  pub acked : (s : Serving) (slot applied : ℕ) → Stands s → Stands (record s { feed = acknowledged s.feed slot applied })
  pub renewed : (s : Serving) (slot : ℕ) → Stands s → Stands (record s { feed = new_epoch s.feed slot })
  -- ---- its log: the end stays, or the segment in flight is settled, which is acted to be filed
  pub rests : (s : Serving) (i : LogIn) → (log.transition s.log i).state.end ≡ s.log.end → Stands s → Stands (record s { log = (log.transition s.log i).state })
  pub landed : (s : Serving) (f : FlightState) → s.log.flight ≡ Some f → Owed s.lasting s.log
      → Acted (Does (Filed (name_of (log_of s.lasting) (end_of f.segment)))) → Stands s → Landed (end_of f.segment) (rows_of f.segment)
  pub lands : (s : Serving) (l : LogState) (rows : List (BlockId × Entry)) → Landed l.end rows → Stands s → Stands (record s { log = l })
  pub fed : (s : Serving) (end : End) (rows : List (BlockId × Entry)) → Landed end rows → Stands s → Stands (feeds s end rows)
  -- ---- what it says
  pub stores : (fragment : Fragment) (member : Member) → Says (store fragment member)
  pub fetched : (name : SegName) (ask server : ℕ) → Says (fetch name ask server)
  pub wants : (s : Serving) (block : BlockId) (req again : ℕ) (mode : Mode) → Stands s → Says (want s block req again mode)
  pub gaves : (s : Serving) (block : BlockId) (stamp : Stamp) → Stands s → Says (gave s block stamp)
  pub supplied : (f : Forward) (block : BlockId) (ver : ℕ) (value : Option (List ℕ)) → AllByRecursion Says (send_supply f (output.Supply block ver value))
  pub asks : (inc ask : ℕ) → Says (hello inc ask)
  pub reports : (s : Serving) (slot epoch : ℕ) → Owed s.lasting s.log → Stands s → Says (report s slot epoch)
  pub pushed : (s : Serving) (slot : ℕ) → Stands s → AllByRecursion Says (sending_push s.managers s.feed slot)
  pub all_pushed : (s : Serving) → Stands s → AllByRecursion Says (push_all s.managers s.feed)
  pub answers : (item : ℕ) (a : Answer) → Says (Answers item a)
  pub loses : (name : SegName) → Says (Lose name)
  pub has_read : (node : ℕ) (block : BlockId) (ver : ℕ) (value : Option (List ℕ)) → Says (Does (Read node block ver value))
  pub wrote : (node : ℕ) (block : BlockId) (value : Option (List ℕ)) → Says (Does (Wrote node block value))
  pub synced : (node : ℕ) → Says (Does (Synced node))
  pub files : (name : SegName) (end : End) (rows : List (BlockId × Entry)) → Landed end rows → Says (Does (Filed name))

-- what is known of a packet
abbrev pub Hears : Walk → NodeId → Body → Type 0
Hears w from (body.Grant m) = w.Granted m.block m.entry
Hears w from (body.Fragment m) = OfServer (λ server. w.Came m.ask server (told.Held m.fragment)) from
Hears w from (body.Missing m) = OfServer (λ server. w.Came m.ask server (told.Missing m.generation)) from
Hears w from (body.MapNews m) = w.Mapped m.groups
Hears w from (body.Welcome m) = w.Mapped m.news.groups
Hears w from _ = Unit {0}

pub of_any : (so : ℕ → Type 0) → ((server : ℕ) → so server) → (from : NodeId) → OfServer so from
of_any so each (node.Server server) = each server
of_any so each _ = tt

-- where answers and maps may tell anything, that is known of a packet which is known of a grant
pub hears_so : (w : Walk) → ((ask server : ℕ) (t : Told) → w.Came ask server t) → ((groups : GroupMapState) → w.Mapped groups) → (from : NodeId) (b : Body)
    → ((m : Grant) → b ≡ body.Grant m → w.Granted m.block m.entry) → Hears w from b
hears_so w came mapped from (body.Grant m) fact = fact m refl
hears_so w came mapped from (body.Fragment m) fact = of_any (λ server. w.Came m.ask server (told.Held m.fragment)) (λ server. came m.ask server _) from
hears_so w came mapped from (body.Missing m) fact = of_any (λ server. w.Came m.ask server (told.Missing m.generation)) (λ server. came m.ask server _) from
hears_so w came mapped from (body.MapNews m) fact = mapped m.groups
hears_so w came mapped from (body.Welcome m) fact = mapped m.news.groups
hears_so w came mapped from _ fact = tt
