-- What a server asks for its rebuild, and how it goes on to the next segment or ends, changes no more than that.
use Rattle.std.proofs.Common.{◌≡◌, ◌<◌, ◌==◌, ◌||◌, not, cond, ℕ, suc, Bool, true, map, List, [], ◌∷◌, append-nil, Option, Some, None, is_some, refl, sym, ap, subst, ◌∙◌, arith}
use Rattle.std.specs.List.{AllByRecursion}
use Rattle.std.specs.Prelude.{IfSome}
use Rattle.core_world.specs.declared.any_node.AnyNode.{AnyNode}
use Rattle.fragment_store.specs.Calls.{on_fill, shelf_store, with_fragment}
use Rattle.fragment_store.specs.ShelfState.{ShelfState, held_at, is_held, is_marked}
use Rattle.group_rebuild.specs.declared.output.Out.{Out}
use Rattle.group_rebuild.specs.declared.output.Out.TheVariants as out
use Rattle.group_rebuild.specs.declared.wanted.Wanted.{Wanted}
use Rattle.group_rebuild.specs.declared.reads.Present.{Present}
use Rattle.group_rebuild.specs.Reads.{ReadsState, asked_again, fetches, go_on, one_more}
use Rattle.group_rebuild.specs.RebuildState.{RebuildState}
use Rattle.group_rebuild.specs.Transition.{awaited, lists, repeated}
use Rattle.node_base.specs.Asking.{asked_as, draw, drawn_for, next_ask, number_for}
use Rattle.node_base.specs.Beginning.{answers_unanswered}
use Rattle.node_base.specs.declared.effects.Effect.{Effect}
use Rattle.node_base.specs.declared.effects.Effect.TheVariants.{Answer as Answers, Does, Lose, Send}
use Rattle.node_base.specs.declared.questions.Asked.{Asked}
use Rattle.node_base.specs.declared.questions.Questions.{Questions}
use Rattle.store_nodes.specs.declared.server.Rebuilding.{Rebuilding}
use Rattle.store_nodes.specs.declared.server.Server.{Server as Node}
use Rattle.store_nodes.specs.Rebuilds.{Done, ask_fragment, ask_list, says}
use Rattle.stripe_code.specs.Round.{RoundSoFar, has_answered, unanswered}
use Rattle.version_model.specs.declared.answer.Answer.{Answer}
use Rattle.version_model.specs.declared.answer.Answer.TheVariants as answer
use Rattle.wire_msg.specs.declared.body.Body.{Body}
use Rattle.wire_msg.specs.declared.body.Body.TheVariants as body
use Rattle.wire_msg.specs.declared.storage.Fetch.{Fetch}
use Rattle.world_base.specs.declared.estate.Estate.{Estate}
use Rattle.xfs_base.proofs.Alls.{all_append, all_filter, all_map, all_weaker}
use Rattle.xfs_base.proofs.Booleans.{by_test, equal_itself, or_first, or_second}
use Rattle.xfs_base.proofs.SegmentNames.{same_itself}
use Rattle.xfs_base.specs.declared.fragment.Fragment.{Fragment}
use Rattle.xfs_base.specs.declared.node.NodeId.{NodeId}
use Rattle.xfs_base.specs.declared.node.NodeId.TheVariants as nodes
use Rattle.xfs_base.specs.declared.segment.SegName.{SegName}
use Rattle.xfs_base.specs.Segments.{same_name, seg_cmp}
use Rattle.xfs_base.specs.Stamps.{is_greater}
use Rattle.xfs_base.specs.Steps.{saying, steps}
use Rattle.headline.specs.Numbers.{AreCounted, BeganAt, IsRebuilt}
use Rattle.headline.specs.Tellings.{HasFetched}
use Rattle.run_answers.proofs.number_law.Running.{AskedOf, Behind, NodeSo, PresentSo, ReadingSo, RunsSo}

-- ---- the shelf

-- what is asked and answered leaves the shelf as it is
abbrev IsNoFill : Out → Type 0
IsNoFill (out.Fill f) = ⊥
IsNoFill _ = Unit {0}

asks_shelf : (node : Node) (r : Option Rebuilding) (server : ℕ) (name : SegName) (own : ℕ) → (ask_fragment node r server name own).state.shelf ≡ node.shelf
asks_shelf node None server name own = refl
asks_shelf node (Some r) server name own = refl

says_shelf : (node : Node) (o : Out) → IsNoFill o → (says node o).state.shelf ≡ node.shelf
unfolding says
says_shelf node (out.List server) fit = refl
says_shelf node (out.Fetch server name own) fit = asks_shelf node node.rebuilding server name own
says_shelf node (out.Fill f) fit = absurd fit
says_shelf node (out.Finished filled gone) fit = refl

all_shelf : (outs : List Out) (node : Node) → AllByRecursion IsNoFill outs → (steps says node outs).state.shelf ≡ node.shelf
all_shelf [] node fit = refl
all_shelf (o ∷ outs) node fit = all_shelf outs (says node o).state fit.1 ∙ says_shelf node o fit.0

pub next_shelf : (left : List Wanted) (reads : ReadsState) (node : Node) → (steps says node (go_on left reads).outs).state.shelf ≡ node.shelf
next_shelf [] reads node = all_shelf (go_on [] reads).outs node (tt, tt)
next_shelf (w ∷ left) reads node =
    all_shelf (go_on (w ∷ left) reads).outs node (all_map IsNoFill (λ (server : ℕ). out.Fetch server w.meta.name (one_more reads.ask)) (λ server. tt) w.others)

-- a fragment that is filled in stands there, or its name is barred
module _ (f : Fragment) where
  abbrev IsThere : List Fragment → Type 0
  IsThere held = is_some (held_at held f.meta.name) ≡ true

  behind_one : (g : Fragment) (held : List Fragment) → IsThere held → IsThere (g ∷ held)
  behind_one g held h =
      by_test (λ (o : Option Fragment). is_some o ≡ true) (same_name f.meta.name g.meta.name) (Some g) (held_at held f.meta.name) (λ _. refl) (λ _. h)

  put_there : (held : List Fragment) → IsThere (with_fragment f held)
  put_there [] = ap (λ t. is_some (cond t (Some f) None)) (same_itself f.meta.name)
  put_there (g ∷ held) =
      by_test IsThere (is_greater (seg_cmp f.meta.name g.meta.name)) (g ∷ with_fragment f held) (f ∷ g ∷ held)
      (λ _. behind_one g (with_fragment f held) (put_there held))
      (λ _. ap (λ t. is_some (cond t (Some f) (held_at (g ∷ held) f.meta.name))) (same_itself f.meta.name))

  pub fill_stands : (s : ShelfState) → (is_held (on_fill s f) f.meta.name || is_marked (on_fill s f).marks f.meta.name) ≡ true
  fill_stands s =
      by_test (λ (x : ShelfState). (is_held x f.meta.name || is_marked x.marks f.meta.name) ≡ true) (is_marked s.marks f.meta.name) s (shelf_store s f)
      (λ marked. or_second (is_held s f.meta.name) (is_marked s.marks f.meta.name) marked)
      (λ _. or_first (is_held (shelf_store s f) f.meta.name) (is_marked (shelf_store s f).marks f.meta.name)
      (by_test (λ (x : ShelfState). is_held x f.meta.name ≡ true) (is_held s f.meta.name) s (record s { held = with_fragment f s.held }) (λ held. held)
      (λ _. put_there s.held)))

-- ---- the servers that are asked for a segment

abbrev pub ask_of : SegName → ℕ → ℕ → Effect
ask_of name ask server = Send (nodes.Server server) (body.Fetch (record { name = name; ask = ask }))

module _ (q : Questions) (node : Node) (r : Rebuilding) (name : SegName) (own : ℕ) where
  abbrev asking : Node
  asking = record node { questions = q; rebuilding = Some r }

  -- under the question that is out, or a new one
  abbrev asked_if : Bool → ℕ → ℕ → Done
  asked_if t n server = record {
    state = record asking {
      questions = cond t q (draw q);
      rebuilding = Some (record r { fetches = record { own = n; ask = cond t r.fetches.ask (next_ask q) } });
    };
    outs = ask_of name (cond t r.fetches.ask (next_ask q)) server ∷ [];
  }

  module _ (same : r.fetches.own ≡ own) where
    same_question : (server : ℕ) → says asking (out.Fetch server name own) ≡ record { state = asking; outs = ask_of name r.fetches.ask server ∷ [] }
    unfolding says
    same_question server =
        ap (λ (t : Bool). asked_if t own server) (subst (λ (n : ℕ). (own == n) ≡ true) (sym same) (equal_itself own))
        ∙ ap (λ (n : ℕ). asked_if true n server) (sym same)

    -- the server stays as it is, and they are asked under that question
    pub same_questions : (servers : List ℕ) → steps says asking (fetches name own servers)
        ≡ record { state = asking; outs = map (ask_of name r.fetches.ask) servers }
    same_questions [] = refl
    same_questions (server ∷ servers) =
        ap (λ (d : Done). saying d.outs (steps says d.state (fetches name own servers))) (same_question server)
        ∙ ap (saying (ask_of name r.fetches.ask server ∷ [])) (same_questions servers)

-- the first of them under a question, and the others under the same
pub first_questions : (node : Node) (r : Rebuilding) (name : SegName) (own server : ℕ) (servers : List ℕ)
    → steps says (record node { rebuilding = Some r }) (fetches name own (server ∷ servers)) ≡ record {
      state = record node { questions = drawn_for r.fetches node.questions own; rebuilding = Some (record r { fetches = asked_as r.fetches node.questions own }) };
      outs = map (ask_of name (number_for r.fetches node.questions own)) (server ∷ servers);
    }
unfolding says
first_questions node r name own server servers =
    ap (saying (ask_of name (number_for r.fetches node.questions own) server ∷ []))
    (same_questions (drawn_for r.fetches node.questions own) node (record r { fetches = asked_as r.fetches node.questions own }) name own refl servers)

-- ---- what is done

module _ (e : Estate AnyNode) (v count : ℕ) where
  -- it answers only so that it is rebuilt
  abbrev pub AnswerSo : ℕ → Answer → Type 0
  AnswerSo item (answer.Rebuilt filled gone) = IsRebuilt e count v item filled gone
  AnswerSo item _ = Unit {0}

  -- and does nothing but to send and to answer
  abbrev pub EffectSo : Effect → Type 0
  EffectSo (Send to said) = Unit {0}
  EffectSo (Answers item a) = AnswerSo item a
  EffectSo (Lose seg) = ⊥
  EffectSo (Does act) = ⊥

  -- in this event it asks another server for its fragment of a segment, under a question
  abbrev pub AsksNow : ℕ → Fetch → Type 0
  AsksNow other m = (begun : ℕ) → begun < count → HasFetched e (nodes.Server v) begun (suc count) m.name m.ask other

  -- what it asks a server for it asks in this event
  abbrev pub AskSo : ℕ → Body → Type 0
  AskSo other (body.Fetch m) = AsksNow other m
  AskSo other _ = Unit {0}

  abbrev pub SentSo : NodeId → Body → Type 0
  SentSo (nodes.Server other) said = AskSo other said
  SentSo _ said = Unit {0}

  abbrev pub Acted : Effect → Type 0
  Acted (Send to said) = SentSo to said
  Acted (Answers item a) = Unit {0}
  Acted (Lose seg) = Unit {0}
  Acted (Does act) = Unit {0}

  pub record Led (d : Done) : Type 0 where
    pub state : NodeSo e v (suc count) d.state
    pub outs : AllByRecursion EffectSo d.outs

  -- where it does in this event what it is to do
  abbrev pub Leads : Done → Type 0
  Leads d = AllByRecursion Acted d.outs → Led d

  -- ---- what is asked

  list_quiet : (r : Option Rebuilding) (server : ℕ) → AllByRecursion EffectSo (ask_list r server)
  list_quiet None server = tt
  list_quiet (Some r) server = (tt, tt)

  lists_lead : (servers : List ℕ) (node : Node) → NodeSo e v (suc count) node → Led (steps says node (lists servers))
  unfolding says
  lists_lead [] node h = record { state = h; outs = tt }
  lists_lead (server ∷ servers) node h =
      let more = lists_lead servers node h in
      record {
        state = more.state;
        outs = all_append EffectSo (ask_list node.rebuilding server) (steps says node (lists servers)).outs (list_quiet node.rebuilding server) more.outs;
      }

  quiet_asks : (name : SegName) (ask : ℕ) (servers : List ℕ) → AllByRecursion EffectSo (map (ask_of name ask) servers)
  quiet_asks name ask servers = all_map EffectSo (ask_of name ask) (λ server. tt) servers

  -- under the question that is out
  again_leads : (node : Node) (r : Rebuilding) (name : SegName) (own : ℕ) (servers : List ℕ) → AllByRecursion (λ (other : ℕ). r.fetches.own ≡ own) servers
      → NodeSo e v (suc count) (record node { rebuilding = Some r }) → Led (steps says (record node { rebuilding = Some r }) (fetches name own servers))
  again_leads node r name own [] all h = record { state = h; outs = tt }
  again_leads node r name own (server ∷ servers) all h =
      subst Led (sym (same_questions node.questions node r name own all.0 (server ∷ servers)))
      (record { state = h; outs = quiet_asks name r.fetches.ask (server ∷ servers) })

  module _ (node : Node) (r : Rebuilding) (so : RunsSo e v (suc count) node.items.unanswered node.maps.groups r.lists r.fetches r.rebuild) where
    present_leads : (own : ℕ) (p : Option Present) → IfSome p (PresentSo e v so.begun (suc count) r.fetches own)
        → Led (steps says (record node { rebuilding = Some r }) (asked_again own p))
    present_leads own None h = record { state = so; outs = tt }
    present_leads own (Some p) h = again_leads node r p.wanted.meta.name own (unanswered p.round) still_out so
      where
        IsOut : ℕ → Type 0
        IsOut other = r.fetches.own ≡ own

        still_out : AllByRecursion IsOut (unanswered p.round)
        still_out =
            subst (λ (x : RoundSoFar). AllByRecursion IsOut (unanswered x)) (sym h.is)
            (all_filter IsOut (λ server. not (has_answered p.round.answers server)) p.wanted.others
            (all_weaker (AskedOf e v so.begun (suc count) p.wanted.meta.name r.fetches own) IsOut (λ other one. one.0) p.wanted.others h.asked))

    -- what is unanswered is asked again
    pub repeats_lead : (reads : Option ReadsState) → r.rebuild.reads ≡ reads → Led (steps says (record node { rebuilding = Some r }) (repeated r.rebuild reads))
    repeats_lead None same = lists_lead (awaited r.rebuild) (record node { rebuilding = Some r }) so
    repeats_lead (Some reads) same =
        present_leads reads.ask reads.present
        (subst (λ (o : Option ReadsState). ReadingSo e v so.begun (suc count) r.lists r.fetches r.rebuild.heard r.rebuild.listed o) same so.reading).present

  -- ---- the next segment is read, or the item is answered

  -- the rebuild reads so
  abbrev pub with_reading : Node → Rebuilding → RebuildState → ReadsState → Node
  with_reading node r s reads = record node { rebuilding = Some (record r { rebuild = record s { reads = Some reads } }) }

  -- the item is open, and so many are filled in and gone before these that are left
  pub record Open (node : Node) (s : RebuildState) (left : List Wanted) (reads : ReadsState) : Type 0 where
    pub item : ℕ
    pub waits : node.items.unanswered ≡ Some item
    pub begun : ℕ
    pub began : BeganAt e (nodes.Server v) item begun
    pub since : begun < count
    pub server : s.server ≡ v
    pub known : node.maps.groups ≡ Some s.groups
    pub behind : Behind e v begun (suc count) left reads.filled reads.gone

  rebuilt : (node : Node) (s : RebuildState) (reads : ReadsState) → (h : Open node s [] reads) → IsRebuilt e count v h.item reads.filled reads.gone
  rebuilt node s reads h = record {
    begun = h.begun;
    began = h.began;
    since = h.since;
    wanted = h.behind.wanted;
    lacking = h.behind.lacking;
    many = h.behind.many;
    lost = h.behind.lost;
    counted = subst (λ (ws : List Wanted). AreCounted e v h.begun (suc count) ws h.behind.many h.behind.lost) (sym (append-nil h.behind.over) ∙ h.behind.whole)
        h.behind.counted;
    fills = h.behind.fills;
    losses = h.behind.losses;
  }

  answers_so : (o : Option ℕ) (item filled gone : ℕ) → o ≡ Some item → IsRebuilt e count v item filled gone
      → AllByRecursion EffectSo (answers_unanswered o (answer.Rebuilt filled gone))
  answers_so None item filled gone same h = tt
  answers_so (Some n) item filled gone same h = (subst (λ (x : ℕ). IsRebuilt e count v x filled gone) (sym (one_number n item same)) h, tt)
    where
      one_number : (a b : ℕ) → Some a ≡ Some b → a ≡ b
      one_number a b fact = cc

  -- the servers that it asks in this event are asked
  asked_from : (name : SegName) (fetches : Asked) (own : ℕ) → fetches.own ≡ own → (begun : ℕ) → begun < count → (servers : List ℕ)
      → AllByRecursion Acted (map (ask_of name fetches.ask) servers) → AllByRecursion (AskedOf e v begun (suc count) name fetches own) servers
  asked_from name fetches own same begun since [] acted = tt
  asked_from name fetches own same begun since (server ∷ servers) acted =
      ((same, acted.0 begun since), asked_from name fetches own same begun since servers acted.1)

  reads_on : (node : Node) (r : Rebuilding) (s : RebuildState) (w : Wanted) (left : List Wanted) (reads : ReadsState) → (h : Open node s (w ∷ left) reads)
      → AllByRecursion (AskedOf e v h.begun (suc count) w.meta.name r.fetches (one_more reads.ask)) w.others
      → NodeSo e v (suc count) (with_reading node r s (go_on (w ∷ left) reads).state)
  reads_on node r s w left reads h asked =
      let low = h.since in
      record {
        item = h.item;
        waits = h.waits;
        begun = h.begun;
        began = h.began;
        since = omega arith;
        server = h.server;
        known = h.known;
        reading = record { behind = h.behind; present = record { is = refl; asked = asked; come = tt; fit = tt } };
      }

  asks_on : (node : Node) (r : Rebuilding) (s : RebuildState) (w : Wanted) (left : List Wanted) (reads : ReadsState) → Open node s (w ∷ left) reads
      → (servers : List ℕ) → w.others ≡ servers
      → Leads (steps says (with_reading node r s (go_on (w ∷ left) reads).state) (fetches w.meta.name (one_more reads.ask) servers))
  asks_on node r s w left reads h [] none = λ acted. record {
    state = reads_on node r s w left reads h
        (subst (AllByRecursion (AskedOf e v h.begun (suc count) w.meta.name r.fetches (one_more reads.ask))) (sym none) tt);
    outs = tt;
  }
  asks_on node r s w left reads h (server ∷ servers) same =
      let own : ℕ = one_more reads.ask in
      let asked : Asked = asked_as r.fetches node.questions own in
      subst Leads
      (sym (first_questions node (record r { rebuild = record s { reads = Some (go_on (w ∷ left) reads).state } }) w.meta.name own server servers))
      (λ acted. record {
        state = reads_on node (record r { fetches = asked }) s w left reads h
            (subst (AllByRecursion (AskedOf e v h.begun (suc count) w.meta.name asked own)) (sym same)
            (asked_from w.meta.name asked own refl h.begun h.since (server ∷ servers) acted));
        outs = quiet_asks w.meta.name asked.ask (server ∷ servers);
      })

  pub next_leads : (node : Node) (r : Rebuilding) (s : RebuildState) (left : List Wanted) (reads : ReadsState) → Open node s left reads
      → Leads (steps says (with_reading node r s (go_on left reads).state) (go_on left reads).outs)
  unfolding says
  next_leads node r s [] reads h = λ acted. record {
    state = tt;
    outs = all_append EffectSo (answers_unanswered node.items.unanswered (answer.Rebuilt reads.filled reads.gone)) []
        (answers_so node.items.unanswered h.item reads.filled reads.gone h.waits (rebuilt node s reads h)) tt;
  }
  next_leads node r s (w ∷ left) reads h = asks_on node r s w left reads h w.others refl
