-- How far a rebuild that is under way is: the lists that came, or what was filled in and is gone, and what is read at present.
use Rattle.std.proofs.Common.{◌≡◌, ◌<◌, ◌+◌, ℕ, suc, List, [], ◌∷◌, ◌++◌, append_assoc, Option, Some, None, map, min, ap, ◌∙◌, arith}
use Rattle.std.specs.List.{AllByRecursion}
use Rattle.std.specs.Prelude.{IfSome}
use Rattle.core_world.specs.declared.any_node.AnyNode.{AnyNode}
use Rattle.group_map.specs.GroupMapState.{GroupMapState}
use Rattle.group_rebuild.specs.declared.reads.Present.{Present}
use Rattle.group_rebuild.specs.declared.wanted.Wanted.{Wanted}
use Rattle.group_rebuild.specs.Reads.{ReadsState, one_more}
use Rattle.group_rebuild.specs.RebuildState.{RebuildState}
use Rattle.node_base.specs.declared.questions.Asked.{Asked}
use Rattle.store_nodes.specs.declared.server.Rebuilding.{Rebuilding}
use Rattle.store_nodes.specs.declared.server.Server.{Server as Node}
use Rattle.stripe_code.specs.declared.round.Answer.{Answer as Reply}
use Rattle.stripe_code.specs.declared.round.Told.{Told}
use Rattle.stripe_code.specs.Round.{RoundSoFar, has_answered, round_take}
use Rattle.wire_msg.specs.declared.storage.Listed.{Listed}
use Rattle.world_base.specs.declared.estate.Estate.{Estate}
use Rattle.xfs_base.proofs.Alls.{all_append, all_weaker}
use Rattle.xfs_base.proofs.Booleans.{by_test}
use Rattle.xfs_base.specs.declared.fragment.FragMeta.{FragMeta}
use Rattle.xfs_base.specs.declared.node.NodeId.TheVariants as nodes
use Rattle.xfs_base.specs.declared.segment.SegName.{SegName}
use Rattle.xfs_base.specs.Limits.{u32_end}
use Rattle.headline.specs.Numbers.{AreCounted, BeganAt, IsFilled, IsGone, IsLacking, IsReplyOf, listed_by}
use Rattle.headline.specs.Numbers.AreCounted.{OneFilled, OneGone}
use Rattle.headline.specs.Tellings.{HasFetched, HasTold}
use Rattle.run_answers.proofs.number_law.Evidence.{IsAskedAs, counted_later, lacking_later}
use Rattle.run_answers.proofs.number_law.Tellings.{ListCame, Replied, fetched_later, lists_later, replies_later}

-- a round over the other members of a segment's group, with these replies
abbrev pub round_of : Wanted → List Reply → RoundSoFar
round_of w replies = record { n = w.n; parity = w.parity; servers = w.others; answers = replies }

abbrev pub here : Option Present → List Wanted
here None = []
here (Some p) = p.wanted ∷ []

module _ (e : Estate AnyNode) (v begun end : ℕ) where
  -- under this question these servers are heard, and this is listed
  pub record ListsSo (ask : ℕ) (heard : List ℕ) (listed : List (SegName × FragMeta)) : Type 0 where
    pub lists : List (ℕ × Listed)
    pub come : AllByRecursion (ListCame e (nodes.Server v) begun end) lists
    pub asked : AllByRecursion (IsAskedAs ask) lists
    pub heard_of : heard ≡ map (λ (list : ℕ × Listed). list.0) lists
    pub listed_of : listed ≡ listed_by lists

  -- another server was asked for its fragment, under the question that is out for this one of the rebuild's
  abbrev pub AskedOf : SegName → Asked → ℕ → ℕ → Type 0
  AskedOf name fetches own other = (fetches.own ≡ own) × HasFetched e (nodes.Server v) begun end name fetches.ask other

  -- the round that is under way, for this question of the rebuild's
  pub record PresentSo (fetches : Asked) (own : ℕ) (p : Present) : Type 0 where
    pub is : p.round ≡ round_of p.wanted p.round.answers
    pub asked : AllByRecursion (AskedOf p.wanted.meta.name fetches own) p.wanted.others
    pub come : AllByRecursion (Replied e (nodes.Server v) begun end p.wanted.meta.name fetches.ask) p.round.answers
    pub fit : AllByRecursion (IsReplyOf p.wanted) p.round.answers

  -- so many are filled in and gone, before these that are left of all
  pub record Behind (left : List Wanted) (filled gone : ℕ) : Type 0 where
    pub wanted : List Wanted
    pub lacking : IsLacking e v begun end wanted
    pub over : List Wanted
    pub many : ℕ
    pub lost : ℕ
    pub counted : AreCounted e v begun end over many lost
    pub whole : over ++ left ≡ wanted
    pub fills : filled ≡ min many u32_end
    pub losses : gone ≡ min lost u32_end

  pub record ReadsSo (fetches : Asked) (r : ReadsState) : Type 0 where
    pub behind : Behind (here r.present ++ r.left) r.filled r.gone
    pub present : IfSome r.present (PresentSo fetches r.ask)

  abbrev pub ReadingSo : ℕ → Asked → List ℕ → List (SegName × FragMeta) → Option ReadsState → Type 0
  ReadingSo ask fetches heard listed None = ListsSo ask heard listed
  ReadingSo ask fetches heard listed (Some r) = ReadsSo fetches r

  -- ---- one more is filled in, or gone

  one_counted : (n m : ℕ) → n ≡ min m u32_end → one_more n ≡ min (suc m) u32_end
  one_counted n m h = by n m u32_end h
    where
      by : (n m end : ℕ) → n ≡ min m end → min (n + 1) end ≡ min (suc m) end
      by n m end h = omega arith

  pub filled_one : (w : Wanted) (left : List Wanted) (filled gone : ℕ) → Behind (w ∷ left) filled gone → IsFilled e v begun end w
      → Behind left (one_more filled) gone
  filled_one w left filled gone h one = record {
    wanted = h.wanted;
    lacking = h.lacking;
    over = h.over ++ w ∷ [];
    many = suc h.many;
    lost = h.lost;
    counted = OneFilled w h.counted one;
    whole = append_assoc h.over (w ∷ []) left ∙ h.whole;
    fills = one_counted filled h.many h.fills;
    losses = h.losses;
  }

  pub gone_one : (w : Wanted) (left : List Wanted) (filled gone : ℕ) → Behind (w ∷ left) filled gone → IsGone e v begun end w
      → Behind left filled (one_more gone)
  gone_one w left filled gone h one = record {
    wanted = h.wanted;
    lacking = h.lacking;
    over = h.over ++ w ∷ [];
    many = h.many;
    lost = suc h.lost;
    counted = OneGone w h.counted one;
    whole = append_assoc h.over (w ∷ []) left ∙ h.whole;
    fills = h.fills;
    losses = one_counted gone h.lost h.losses;
  }

  -- a server replied, and so the round stands with that
  pub round_taken : (fetches : Asked) (own : ℕ) (p : Present) (server : ℕ) (t : Told) → PresentSo fetches own p
      → IsReplyOf p.wanted (record { server = server; told = t }) → HasTold e (nodes.Server v) begun end p.wanted.meta.name fetches.ask server t
      → PresentSo fetches own (record { wanted = p.wanted; round = round_take p.round server t })
  unfolding round_take
  round_taken fetches own p server t h fits new =
      by_test (λ (r : RoundSoFar). PresentSo fetches own (record { wanted = p.wanted; round = r })) (has_answered p.round.answers server) p.round
      (record p.round { answers = p.round.answers ++ record { server = server; told = t } ∷ [] }) (λ _. h)
      (λ _. record {
        is = ap (λ (r : RoundSoFar). record r { answers = p.round.answers ++ record { server = server; told = t } ∷ [] }) h.is;
        asked = h.asked;
        come = all_append (Replied e (nodes.Server v) begun end p.wanted.meta.name fetches.ask) p.round.answers
            (record { server = server; told = t } ∷ []) h.come (new, tt);
        fit = all_append (IsReplyOf p.wanted) p.round.answers (record { server = server; told = t } ∷ []) h.fit (fits, tt);
      })

-- ---- one event later

module _ (e : Estate AnyNode) (v begun end : ℕ) where
  behind_later : (left : List Wanted) (filled gone : ℕ) → Behind e v begun end left filled gone → Behind e v begun (suc end) left filled gone
  behind_later left filled gone h = record {
    wanted = h.wanted;
    lacking = lacking_later e v begun end h.wanted h.lacking;
    over = h.over;
    many = h.many;
    lost = h.lost;
    counted = counted_later e v begun end h.counted;
    whole = h.whole;
    fills = h.fills;
    losses = h.losses;
  }

  present_later : (fetches : Asked) (own : ℕ) (p : Option Present) → IfSome p (PresentSo e v begun end fetches own)
      → IfSome p (PresentSo e v begun (suc end) fetches own)
  present_later fetches own None h = tt
  present_later fetches own (Some p) h = record {
    is = h.is;
    asked = all_weaker (AskedOf e v begun end p.wanted.meta.name fetches own) (AskedOf e v begun (suc end) p.wanted.meta.name fetches own)
        (λ other one. (one.0, fetched_later e (nodes.Server v) begun end p.wanted.meta.name fetches.ask other one.1)) p.wanted.others h.asked;
    come = replies_later e (nodes.Server v) begun end p.wanted.meta.name fetches.ask p.round.answers h.come;
    fit = h.fit;
  }

  pub reading_later : (ask : ℕ) (fetches : Asked) (heard : List ℕ) (listed : List (SegName × FragMeta)) (r : Option ReadsState)
      → ReadingSo e v begun end ask fetches heard listed r → ReadingSo e v begun (suc end) ask fetches heard listed r
  reading_later ask fetches heard listed None h = record {
    lists = h.lists;
    come = lists_later e (nodes.Server v) begun end h.lists h.come;
    asked = h.asked;
    heard_of = h.heard_of;
    listed_of = h.listed_of;
  }
  reading_later ask fetches heard listed (Some r) h =
      record { behind = behind_later (here r.present ++ r.left) r.filled r.gone h.behind; present = present_later fetches r.ask r.present h.present }

-- ---- a server

module _ (e : Estate AnyNode) (v end : ℕ) where
  -- a rebuild is under way for this open item, over these groups, and asks for lists, and for fragments, under these questions
  pub record RunsSo (open_item : Option ℕ) (groups : Option GroupMapState) (ask : ℕ) (fetches : Asked) (r : RebuildState) : Type 0 where
    pub item : ℕ
    pub waits : open_item ≡ Some item
    pub begun : ℕ
    pub began : BeganAt e (nodes.Server v) item begun
    pub since : begun < end
    pub server : r.server ≡ v
    pub known : groups ≡ Some r.groups
    pub reading : ReadingSo e v begun end ask fetches r.heard r.listed r.reads

  abbrev pub SoFar : Option ℕ → Option GroupMapState → Option Rebuilding → Type 0
  SoFar open_item groups None = Unit {0}
  SoFar open_item groups (Some r) = RunsSo open_item groups r.lists r.fetches r.rebuild

  abbrev pub NodeSo : Node → Type 0
  NodeSo node = SoFar node.items.unanswered node.maps.groups node.rebuilding

module _ (e : Estate AnyNode) (v end : ℕ) where
  runs_later : (open_item : Option ℕ) (groups : Option GroupMapState) (ask : ℕ) (fetches : Asked) (r : RebuildState)
      → RunsSo e v end open_item groups ask fetches r → RunsSo e v (suc end) open_item groups ask fetches r
  runs_later open_item groups ask fetches r h =
      let low = h.since in
      record {
        item = h.item;
        waits = h.waits;
        begun = h.begun;
        began = h.began;
        since = omega arith;
        server = h.server;
        known = h.known;
        reading = reading_later e v h.begun end ask fetches r.heard r.listed r.reads h.reading;
      }

  pub so_later : (open_item : Option ℕ) (groups : Option GroupMapState) (r : Option Rebuilding) → SoFar e v end open_item groups r
      → SoFar e v (suc end) open_item groups r
  so_later open_item groups None h = tt
  so_later open_item groups (Some r) h = runs_later open_item groups r.lists r.fetches r.rebuild h
