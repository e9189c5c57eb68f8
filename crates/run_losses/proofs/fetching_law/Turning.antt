-- What an event makes of what a client's open call reads, and what it says in it: how these go together where moves follow.
use Rattle.std.proofs.Common.{◌≡◌, ◌⊎◌, ⊎_elim, ℕ, ◌<◌, false, true, List, ◌++◌, Option, Some, None, is_none, is_some, sym, ap, subst, ◌∙◌, inl, inr}
use Rattle.std.specs.List.{AllByRecursion}
use Rattle.xfs_base.proofs.Booleans.{contrary}
use Rattle.client_call.specs.Reads.{reading_in}
use Rattle.client_moves.specs.Moves.{Heard, heard_step}
use Rattle.client_serving.specs.declared.serving.Serving.{Serving}
use Rattle.client_serving.specs.Reads.{group_in}
use Rattle.group_map.specs.declared.group.Group.{Group}
use Rattle.node_base.specs.Asking.{next_ask}
use Rattle.node_base.specs.declared.effects.Effect.{Effect}
use Rattle.node_base.specs.declared.effects.Effect.TheVariants.{Send, Answer, Lose, Does}
use Rattle.node_base.specs.declared.items.Items.{Items}
use Rattle.node_base.specs.declared.questions.Questions.{Questions}
use Rattle.node_base.specs.Maps.{maps_take}
use Rattle.node_moves.specs.server_moves.Moves.{Brought}
use Rattle.segment_reading.specs.declared.reading.Next.TheVariants.{Again}
use Rattle.segment_reading.specs.declared.reading.Stage.TheVariants.{Between, Doubted}
use Rattle.segment_reading.specs.declared.target.BlockAt.{BlockAt}
use Rattle.segment_reading.specs.declared.target.Target.{Target}
use Rattle.segment_reading.specs.Reading.{ReadingState, reading_start, goes_on}
use Rattle.token_client.specs.State.{TokensState, epoch_of}
use Rattle.token_client.specs.Transition.{accepts}
use Rattle.wire_msg.specs.declared.body.Body.{Body}
use Rattle.wire_msg.specs.declared.body.Body.TheVariants as body
use Rattle.wire_msg.specs.declared.packet.Do.{Do}
use Rattle.wire_msg.specs.declared.packet.Packet.{Packet}
use Rattle.wire_msg.specs.declared.registry.News.{News}
use Rattle.xfs_base.specs.Blocks.{slot_of}
use Rattle.xfs_base.specs.declared.segment.SegName.{SegName}
use Rattle.xfs_base.proofs.Alls.{all_append, all_weaker}
use Rattle.run_losses.specs.fetching_law.Fetchings.{Confirms}
use Rattle.headline.specs.Reads.{BringsGone}
use Rattle.run_losses.proofs.fetching_law.Following.{AllQuiet, Follows, IsQuiet, Lasting, Less, NotLost, NoFetch, Over}
use Rattle.run_losses.proofs.fetching_law.Wants.{Anew, Lasts}

-- a call is open only where its item's answer is still out
abbrev pub WaitsFor : Serving → Type 0
WaitsFor s = is_none s.call ≡ false → is_some s.lasting.items.unanswered ≡ true

-- ---- where what is read comes from

module _ (s : Serving) (what : Do) where
  -- A server told something of it. Where the place is to be asked for again by that, its want has a later number than any before.
  pub record Told (tokens : TokensState) (r : ReadingState) : Type 0 where
    pub heard : Heard what s
    pub now : r ≡ (heard_step what s heard).state
    pub again : (heard_step what s heard).next ≡ Again → (at : BlockAt) → heard.was.target.block ≡ Some at → Anew s.tokens at.block tokens

  -- a second round begins, by a question that is drawn now
  pub record Resumes (last : ℕ) (r : ReadingState) : Type 0 where
    pub was : ReadingState
    pub reads : reading_in s.call ≡ Some was
    pub between : was.stage ≡ Between
    pub confirms : Confirms what was
    pub fresh : s.lasting.questions.last < last
    pub now : r ≡ (goes_on was last Between).state

  -- the first round begins for a block, by a question that is drawn now
  pub record Begins (last : ℕ) (r : ReadingState) : Type 0 where
    pub target : Target
    pub block : BlockAt
    pub looks : target.block ≡ Some block
    pub group : Group
    pub known : group_in s.maps.groups target.seg.group ≡ Some group
    pub fresh : s.lasting.questions.last < last
    pub now : r ≡ reading_start target group last

  -- what is read was read before, or comes so
  abbrev pub Comes : TokensState → ℕ → ReadingState → Type 0
  Comes tokens last r = (reading_in s.call ≡ Some r) ⊎ (Told tokens r ⊎ (Resumes last r ⊎ Begins last r))

  -- with tokens that follow
  comes_on : (t u : TokensState) → Lasts t u → (last : ℕ) (r : ReadingState) → Comes t last r → Comes u last r
  comes_on t u lasts last r (inl same) = inl same
  comes_on t u lasts last r (inr (inl x)) =
      inr (inl (record {
        heard = x.heard;
        now = x.now;
        again = λ asks at block. lasts at.block s.tokens.inc s.tokens.req (epoch_of s.tokens.epochs (slot_of at.block.ino.0)) (x.again asks at block);
      }))
  comes_on t u lasts last r (inr (inr other)) = inr (inr other)

  -- ---- what is said

  -- a fetch by the number of what is read then is of its segment
  abbrev pub Asks : Option ReadingState → ℕ → SegName → Type 0
  Asks None ask name = Unit {0}
  Asks (Some r) ask name = ask ≡ r.ask → name ≡ r.target.seg.name

  abbrev pub Sends : Option ReadingState → Body → Type 0
  Sends o (body.Fetch m) = Asks o m.ask m.name
  Sends o _ = Unit {0}

  -- what was read was in doubt, and is confirmed
  pub record Doubts (name : SegName) : Type 0 where
    pub was : ReadingState
    pub reads : reading_in s.call ≡ Some was
    pub doubted : was.stage ≡ Doubted
    pub named : name ≡ was.target.seg.name
    pub confirms : Confirms what was
    pub accepted : accepts s.tokens confirms.grant.block confirms.grant.stamp confirms.grant.inc confirms.grant.req confirms.grant.mode ≡ true

  abbrev pub Says : Option ReadingState → Effect → Type 0
  Says o (Send to said) = Sends o said
  Says o (Answer item a) = Unit {0}
  Says o (Lose seg) = BringsGone s what seg ⊎ Doubts seg
  Says o (Does act) = NotLost act

  abbrev pub AllSay : Option ReadingState → List Effect → Type 0
  AllSay o outs = AllByRecursion (Says o) outs

  -- ---- an event

  -- maps came
  pub record NewMaps (t : Serving) : Type 0 where
    pub news : News
    pub packet : Packet
    pub brought : Brought what packet news
    pub now : t.maps ≡ maps_take s.maps news

  -- no question is drawn, or one
  abbrev pub Draws : ℕ → Type 0
  Draws last = (last ≡ s.lasting.questions.last) ⊎ (last ≡ next_ask s.lasting.questions)

  pub record Turns (t : Serving) (outs : List Effect) : Type 0 where
    pub draws : Draws t.lasting.questions.last
    pub maps : (t.maps ≡ s.maps) ⊎ NewMaps t
    pub wants : Lasts s.tokens t.tokens
    pub waits : WaitsFor t
    pub reading : (r : ReadingState) → reading_in t.call ≡ Some r
        → Comes t.tokens t.lasting.questions.last r × (t.lasting.items.unanswered ≡ s.lasting.items.unanswered)
    pub says : AllSay (reading_in t.call) outs

  -- ---- what is quiet

  quiet_says : (o : Option ReadingState) (x : Effect) → IsQuiet x → Says o x
  quiet_says o (Send to said) h = by said h
    where
      by : (b : Body) → NoFetch b → Sends o b
      by (body.Fetch m) none = absurd none
      by _ none = tt
  quiet_says o (Answer item a) h = tt
  quiet_says o (Lose seg) h = absurd h
  quiet_says o (Does act) h = h

  pub all_quiet_say : (o : Option ReadingState) (outs : List Effect) → AllQuiet outs → AllSay o outs
  all_quiet_say o outs all = all_weaker IsQuiet (Says o) (quiet_says o) outs all

  asks_less : (o now : Option ReadingState) → Less o now → (ask : ℕ) (name : SegName) → Asks o ask name → Asks now ask name
  asks_less o now (inl same) ask name h = subst (λ x. Asks x ask name) (sym same) h
  asks_less o now (inr none) ask name h = subst (λ x. Asks x ask name) (sym none) tt

  says_less : (o now : Option ReadingState) → Less o now → (x : Effect) → Says o x → Says now x
  says_less o now less (Send to said) h = by said h
    where
      by : (b : Body) → Sends o b → Sends now b
      by (body.Fetch m) asks = asks_less o now less m.ask m.name asks
      by _ asks = tt
  says_less o now less (Answer item a) h = tt
  says_less o now less (Lose seg) h = h
  says_less o now less (Does act) h = h

  pub all_say_less : (o now : Option ReadingState) → Less o now → (outs : List Effect) → AllSay o outs → AllSay now outs
  all_say_less o now less outs all = all_weaker (Says o) (Says now) (says_less o now less) outs all

  -- ---- moves follow

  none_read : (a : Option ReadingState) (r : ReadingState) → a ≡ None → a ≡ Some r → ⊥
  none_read a r none some = absurd cc

  pub read_before : (a b : Option ReadingState) → Less a b → (r : ReadingState) → b ≡ Some r → a ≡ Some r
  read_before a b (inl same) r fact = sym same ∙ fact
  read_before a b (inr none) r fact = absurd (none_read b r none fact)

  module _ (t : Serving) (outs : List Effect) (a : Turns t outs) (u : Serving) (more : List Effect) (b : Follows t u more) where
    less : Less (reading_in t.call) (reading_in u.call)
    less = ⊎_elim (λ (x : Lasting t u). x.reading) (λ (x : Over t u). inr (ap reading_in x.over)) b.call

    waits_then : Lasting t u ⊎ Over t u → WaitsFor u
    waits_then (inl x) some = subst (λ (i : Items). is_some i.unanswered ≡ true) (sym x.items) (a.waits (sym x.call ∙ some))
    waits_then (inr x) some = contrary (sym some ∙ ap is_none x.over)

    same_item : Lasting t u ⊎ Over t u → (r : ReadingState) → reading_in u.call ≡ Some r → u.lasting.items.unanswered ≡ t.lasting.items.unanswered
    same_item (inl x) r fact = ap (λ (i : Items). i.unanswered) x.items
    same_item (inr x) r fact = absurd (none_read (reading_in u.call) r (ap reading_in x.over) fact)

    same_last : u.lasting.questions.last ≡ t.lasting.questions.last
    same_last = ap (λ (q : Questions). q.last) b.questions

    maps_then : (t.maps ≡ s.maps) ⊎ NewMaps t → (u.maps ≡ s.maps) ⊎ NewMaps u
    maps_then (inl same) = inl (b.maps ∙ same)
    maps_then (inr n) = inr (record { news = n.news; packet = n.packet; brought = n.brought; now = b.maps ∙ n.now })

    pub turn_follows : Turns u (outs ++ more)
    turn_follows = record {
      draws = subst Draws (sym same_last) a.draws;
      maps = maps_then a.maps;
      wants = λ k inc highest epoch l. b.wants k inc highest epoch (a.wants k inc highest epoch l);
      waits = waits_then b.call;
      reading = λ r fact.
          let was = a.reading r (read_before (reading_in t.call) (reading_in u.call) less r fact) in (
            subst (λ last. Comes u.tokens last r) (sym same_last) (comes_on t.tokens u.tokens b.wants t.lasting.questions.last r was.0),
            same_item b.call r fact ∙ was.1,
          );
      says = all_append (Says (reading_in u.call)) outs more (all_say_less (reading_in t.call) (reading_in u.call) less outs a.says)
          (all_quiet_say (reading_in u.call) more b.quiet);
    }
