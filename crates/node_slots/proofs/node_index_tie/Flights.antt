-- What the log that checkpoints are written to makes of its inputs: what it has in flight goes on with its items, or is settled, and nothing else is written.
use Rattle.std.proofs.Common.{◌≡◌, ℕ, ◌+◌, ◌&&◌, ◌⊎◌, inl, inr, Bool, true, false, cond, List, [], ◌∷◌, Option, Some, None, refl, sym, ap, subst, ◌∙◌}
use Rattle.std.specs.List.{AllByRecursion}
use Rattle.std.specs.Prelude.{nat_le, length}
use Rattle.xfs_base.specs.Limits.{segment_blocks}
use Rattle.segment_format.specs.Rows.{rows_of}
use Rattle.xfs_base.proofs.Booleans.{by_test}
use Rattle.xfs_base.specs.Steps.{still, saying}
use Rattle.xfs_base.specs.declared.block.BlockId.{BlockId}
use Rattle.xfs_base.specs.declared.entry.Entry.{Entry}
use Rattle.xfs_base.specs.declared.segment.SegName.{SegName}
use Rattle.xfs_base.proofs.Alls.{all_append}
use Rattle.group_map.specs.GroupMapState.{GroupMapState}
use Rattle.group_map.specs.declared.group.Member.{Member}
use Rattle.segment_format.specs.declared.segment.Item.{Item}
use Rattle.segment_format.specs.declared.segment.Segment.{Segment}
use Rattle.log_flight.specs.declared.flight.Fate.{Fate}
use Rattle.log_flight.specs.declared.flight.Fate.TheVariants.{Restripe, Settle, Wait}
use Rattle.log_flight.specs.Fate.{fate_of}
use Rattle.log_flight.specs.Flights.{FlightState, is_noted, is_of, flight_note}
use Rattle.log_flight.specs.Texts.{has_text}
use Rattle.client_log.specs.declared.input.In.{In}
use Rattle.client_log.specs.declared.input.In.TheVariants.{Acked, Maps, Tick}
use Rattle.client_log.specs.declared.output.Out.{Out}
use Rattle.client_log.specs.declared.output.Out.TheVariants.{Settled}
use Rattle.client_log.specs.LogState.{LogState}
use Rattle.client_log.specs.Transition.{Done, send_at, sends, sending_send, log_launch, log_write, has_next, is_idle, is_full, log_seal, log_go_on, on_parts, restriped, end_of, landed, settled, can_follow, followed, looked_at, on_acked, on_maps, on_tick, transition}
use Rattle.node_moves.proofs.client_walk.LogTurns.{IsSend}
use Rattle.node_moves.proofs.LogWalk.{IsHeard}
use Rattle.node_slots.proofs.node_index_tie.Moves.{some_none}

sends_send : (f : FlightState) (ms : List Member) (place : ℕ) → AllByRecursion IsSend (sends f ms place)
sends_send f [] place = tt
sends_send f (m ∷ ms) place = all_append IsSend (send_at f m place) (sends f ms (place + 1))
    (by_test (AllByRecursion IsSend) (is_noted f.noted place) [] _ (λ _. tt) (λ _. (tt, tt))) (sends_send f ms (place + 1))

all_send : (f : FlightState) → AllByRecursion IsSend (sending_send f)
unfolding sending_send
all_send f = sends_send f f.group.members 0

module _ (s : LogState) where
  -- the segment in flight has the items of the one that was, in the same log
  pub record Before (f : FlightState) : Type 0 where
    pub old : FlightState
    pub was : s.flight ≡ Some old
    pub items : f.segment.items ≡ old.segment.items
    pub of : f.segment.name.log ≡ old.segment.name.log

  pub record GoesOn (d : Done) : Type 0 where
    pub same_log : d.state.log ≡ s.log
    pub dirty : d.state.dirty ≡ s.dirty
    pub flight : (f : FlightState) → d.state.flight ≡ Some f → Before f
    pub sends : AllByRecursion IsSend d.outs

  -- what was in flight is settled
  pub record Lands (d : Done) : Type 0 where
    pub old : FlightState
    pub was : s.flight ≡ Some old
    pub same_log : d.state.log ≡ s.log
    pub dirty : d.state.dirty ≡ s.dirty
    pub flight : d.state.flight ≡ None
    pub rows : List (BlockId × Entry)
    pub outs : d.outs ≡ Settled (end_of old.segment) rows ∷ []

  abbrev pub Went : Done → Type 0
  Went d = GoesOn d ⊎ Lands d

  stays : (t : LogState) → t.log ≡ s.log → t.dirty ≡ s.dirty → t.flight ≡ s.flight → (outs : List Out) → AllByRecursion IsSend outs
      → Went (record { state = t; outs = outs })
  stays t same_log dirty flight outs sends_ = inl (record {
    same_log = same_log;
    dirty = dirty;
    flight = λ f fact. record
        { old = f; was = sym flight ∙ fact; items = refl; of = refl };
    sends = sends_;
  })

  some_is : {X : Type 0} (x y : X) → Some x ≡ Some y → x ≡ y
  some_is x y same = cc

  module _ (nothing_waits : s.dirty ≡ []) (t : LogState) (same_log : t.log ≡ s.log) (dirty : t.dirty ≡ s.dirty) (f g : FlightState) (was : s.flight ≡ Some f)
      (segment : g.segment ≡ f.segment) where
    not_full : (u : LogState) → u.dirty ≡ [] → is_full u ≡ false
    not_full u none = ap (λ ds. is_idle u && nat_le segment_blocks (length ds)) none ∙ never (is_idle u)
      where
        never : (b : Bool) → (b && false) ≡ false
        never true = refl
        never false = refl

    followed_went : (fate : Fate) → Went (followed t g fate)
    unfolding restriped log_launch settled log_go_on
    followed_went Restripe = inl (record {
      same_log = same_log;
      dirty = dirty;
      flight = λ h fact. let same = some_is _ h fact in record {
        old = f;
        was = was;
        items = ap (λ (x : FlightState). x.segment.items) (sym same) ∙ ap (λ (x : Segment). x.items) segment;
        of = ap (λ (x : FlightState). x.segment.name.log) (sym same) ∙ ap (λ (x : Segment). x.name.log) segment;
      };
      sends = all_send _;
    })
    followed_went Settle =
        subst (λ b. Went (saying (Settled (end_of g.segment) (rows_of g.segment) ∷ []) (cond b (log_seal (landed t g)) (still (landed t g)))))
        (sym (not_full (landed t g) (dirty ∙ nothing_waits)))
        (inr (record {
          old = f;
          was = was;
          same_log = same_log;
          dirty = dirty;
          flight = refl;
          rows = rows_of g.segment;
          outs = ap (λ (x : Segment). Settled (end_of x) (rows_of g.segment) ∷ []) segment;
        }))
    followed_went Wait = inl (record {
      same_log = same_log;
      dirty = dirty;
      flight = λ h fact. let same = some_is _ h fact in record {
        old = f;
        was = was;
        items = ap (λ (x : FlightState). x.segment.items) (sym same) ∙ ap (λ (x : Segment). x.items) segment;
        of = ap (λ (x : FlightState). x.segment.name.log) (sym same) ∙ ap (λ (x : Segment). x.name.log) segment;
      };
      sends = tt;
    })

    looked_went : Went (looked_at s t g)
    unfolding looked_at
    looked_went = by_test Went (can_follow t g (fate_of t.groups g)) (followed t g (fate_of t.groups g)) (still s) (λ _. followed_went (fate_of t.groups g))
        (λ _. stays s refl refl refl [] tt)

  acked_went : s.dirty ≡ [] → (name : SegName) (index generation : ℕ) → Went (on_acked s name index generation)
  unfolding on_acked
  acked_went none name index generation = by s.flight refl
    where
      by : (o : Option FlightState) → s.flight ≡ o
          → Went (elim o [ None ↦ still s | Some f ↦ cond (is_of f name index generation) (looked_at s s (flight_note f index)) (still s) ])
      by None fact = stays s refl refl refl [] tt
      by (Some f) fact = by_test Went (is_of f name index generation) (looked_at s s (flight_note f index)) (still s)
          (λ _. looked_went none s refl refl f (flight_note f index) fact refl) (λ _. stays s refl refl refl [] tt)

  maps_went : s.dirty ≡ [] → (groups : GroupMapState) → Went (on_maps s groups)
  unfolding on_maps
  maps_went none groups = by s.flight refl
    where
      by : (o : Option FlightState) → s.flight ≡ o
          → Went (elim o [ None ↦ still (record s { groups = groups }) | Some f ↦ looked_at s (record s { groups = groups }) f ])
      by None fact = stays (record s { groups = groups }) refl refl refl [] tt
      by (Some f) fact = looked_went none (record s { groups = groups }) refl refl f f fact refl

  tick_went : Went (on_tick s)
  unfolding on_tick
  tick_went = by s.flight
    where
      by : (o : Option FlightState) → Went (elim o [ None ↦ still s | Some f ↦ record { state = s; outs = sending_send f } ])
      by None = stays s refl refl refl [] tt
      by (Some f) = stays s refl refl refl (sending_send f) (all_send f)

  -- what is not a write of anything new
  pub log_went : s.dirty ≡ [] → (i : In) → IsHeard i → Went (transition s i)
  log_went none (Acked name index generation) bars = acked_went none name index generation
  log_went none (Maps groups) bars = maps_went none groups
  log_went none Tick bars = tick_went
  log_went none _ bars = absurd bars

  -- ---- a segment of just these items

  pub record Writes (items : List Item) (d : Done) : Type 0 where
    pub same_log : d.state.log ≡ s.log
    pub dirty : d.state.dirty ≡ s.dirty
    pub items_are : (f : FlightState) → d.state.flight ≡ Some f → f.segment.items ≡ items
    pub of : (f : FlightState) → d.state.flight ≡ Some f → f.segment.name.log ≡ s.log

  pub parts_went : s.flight ≡ None → (items : List Item) → Writes items (on_parts s items)
  unfolding on_parts log_launch
  parts_went none items =
      by_test (Writes items) (is_idle s && has_next s.end.seq && has_text items) (log_write s items) (still s)
      (λ _. record {
        same_log = refl;
        dirty = refl;
        items_are = λ f fact. ap (λ (x : FlightState). x.segment.items) (sym (some_is _ f fact));
        of = λ f fact. ap (λ (x : FlightState). x.segment.name.log) (sym (some_is _ f fact));
      })
      (λ _. record {
        same_log = refl;
        dirty = refl;
        items_are = λ f fact. absurd (some_none f (sym fact ∙ none));
        of = λ f fact. absurd
            (some_none f (sym fact ∙ none));
      })
