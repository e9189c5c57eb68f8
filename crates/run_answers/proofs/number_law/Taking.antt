-- What a rebuild that is under way makes of a list, of a fragment, and of the answer that there is none.
use Rattle.std.proofs.Common.{◌≡◌, ◌==◌, ◌&&◌, ◌||◌, not, min, ℕ, suc, Bool, true, false, List, [], ◌∷◌, ◌++◌, Option, Some, None, is_some, length, refl, sym, ap, subst, ◌∙◌, arith}
use Rattle.std.proofs.lemmas.List.{map-append}
use Rattle.std.proofs.lemmas.List.Sums.{fold-append}
use Rattle.std.specs.Map.{values_of}
use Rattle.std.specs.Prelude.{IfSome}
use Rattle.core_world.specs.declared.any_node.AnyNode.{AnyNode}
use Rattle.core_world.specs.declared.any_node.AnyNode.TheVariants as any
use Rattle.fragment_store.specs.Calls.{barred, on_fill}
use Rattle.fragment_store.specs.ShelfState.{ShelfState, is_held, is_marked}
use Rattle.group_rebuild.specs.declared.output.Out.{Out}
use Rattle.group_rebuild.specs.declared.reads.Present.{Present}
use Rattle.group_rebuild.specs.declared.wanted.Wanted.{Wanted}
use Rattle.group_rebuild.specs.Reads.{ReadsState, answered, counts, go_on, is_of, one_more, reads_judge, reads_of, reads_take}
use Rattle.group_rebuild.specs.RebuildState.{RebuildState}
use Rattle.group_rebuild.specs.Transition.{awaited, awaits, begun_if_all, heard_from, listed_with, on_listed, rebuild_begin, remove_names, told_by, with_reads}
use Rattle.group_rebuild.specs.Wanted.{refilled, wanted_in}
use Rattle.store_nodes.specs.declared.server.Rebuilding.{Rebuilding}
use Rattle.store_nodes.specs.declared.server.Server.{Server as Node}
use Rattle.store_nodes.specs.Rebuilds.{Done, says}
use Rattle.stripe_code.specs.declared.round.RoundState.{RoundState}
use Rattle.stripe_code.specs.declared.round.RoundState.TheVariants.{Read, Short, Waiting}
use Rattle.stripe_code.specs.declared.round.Told.{Told}
use Rattle.stripe_code.specs.declared.round.Told.TheVariants.{Held, Missing}
use Rattle.stripe_code.specs.Round.{RoundSoFar, asks, round_take, state_of}
use Rattle.token_protocol.specs.Basics.{In}
use Rattle.wire_msg.specs.declared.body.Body.TheVariants as body
use Rattle.wire_msg.specs.declared.storage.Listed.{Listed}
use Rattle.world_base.specs.declared.estate.Estate.{Estate}
use Rattle.xfs_base.proofs.Alls.{all_append}
use Rattle.xfs_base.proofs.Booleans.{and_first, and_second, by_test, contrary}
use Rattle.xfs_base.proofs.SegmentNames.{one_name}
use Rattle.xfs_base.specs.declared.fragment.FragMeta.{FragMeta}
use Rattle.xfs_base.specs.declared.fragment.Fragment.{Fragment}
use Rattle.xfs_base.specs.declared.node.NodeId.TheVariants as nodes
use Rattle.xfs_base.specs.declared.segment.SegName.{SegName}
use Rattle.xfs_base.specs.Limits.{u32_end}
use Rattle.xfs_base.specs.Segments.{same_name}
use Rattle.xfs_base.specs.Steps.{Stepped, steps, still}
use Rattle.run_laws.proofs.world_reads.ManagerOwed.{one_among}
use Rattle.headline.specs.Moments.{moment, node_named}
use Rattle.headline.specs.Numbers.{IsLacking, IsReplyOf, RoundStands, listed_by}
use Rattle.headline.specs.Numbers.AreCounted.{NoneYet}
use Rattle.headline.specs.Servers.{shelf_at}
use Rattle.headline.specs.Tellings.{HasCome, HasFetched, HasTold, IsOfSegment}
use Rattle.run_answers.proofs.number_law.Asking.{Leads, Open, fill_stands, next_leads, next_shelf, with_reading}
use Rattle.run_answers.proofs.number_law.Awaiting.{all_told, in_heard}
use Rattle.run_answers.proofs.number_law.Evidence.{IsAskedAs}
use Rattle.run_answers.proofs.number_law.Tellings.{ListCame}
use Rattle.run_answers.proofs.number_law.Running.{AskedOf, Behind, ListsSo, PresentSo, ReadingSo, ReadsSo, RunsSo, filled_one, gone_one, here, reading_later, round_of, round_taken}

-- the server, once the rebuild has taken a step, and done what it says
abbrev pub after : Node → Rebuilding → Stepped RebuildState Out → Done
after node r d = steps says (record node { rebuilding = Some (record r { rebuild = d.state }) }) d.outs

none_of : (o : Option ReadsState) (b : Bool) → (is_some o || b) ≡ false → o ≡ None
none_of None b fact = refl
none_of (Some r) b fact = contrary (sym fact)

zero_least : (n : ℕ) → 0 ≡ min 0 n
zero_least n = omega arith

listed_more : (lists : List (ℕ × Listed)) (list : ℕ × Listed) → listed_by (lists ++ list ∷ []) ≡ listed_with list.1.held (listed_by lists)
listed_more lists list = fold-append (λ (entries : List (SegName × FragMeta)) (l : ℕ × Listed). listed_with l.1.held entries) [] lists (list ∷ [])

filled_name : (w : Wanted) (text : List ℕ) → (refilled w text).meta.name ≡ w.meta.name
unfolding refilled
filled_name w text = refl

-- what counts in a round is a reply of its segment
module _ (p : Present) (is : p.round ≡ round_of p.wanted p.round.answers) where
  told_of : (what : Told) → is_of p.wanted what ≡ true → IsOfSegment p.wanted.meta.name what
  told_of (Held f) fact = one_name f.meta.name p.wanted.meta.name (and_first (same_name f.meta.name p.wanted.meta.name) _ fact)
  told_of (Missing generation) fact = tt

  reply_of : (server : ℕ) (what : Told) → counts p server what ≡ true → IsReplyOf p.wanted (record { server = server; told = what })
  reply_of server what fact = (
    in_heard server p.wanted.others (subst (λ (x : RoundSoFar). asks x server ≡ true) is (and_first (asks p.round server) _ fact)),
    told_of what (and_first (is_of p.wanted what) _ (and_second (asks p.round server) _ fact)),
  )

module _ (e : Estate AnyNode) (v count : ℕ) (node : Node) (r : Rebuilding)
    (so : RunsSo e v count node.items.unanswered node.maps.groups r.lists r.fetches r.rebuild) where
  abbrev s : RebuildState
  s = r.rebuild

  abbrev reading : ReadingSo e v so.begun (suc count) r.lists r.fetches r.rebuild.heard r.rebuild.listed r.rebuild.reads
  reading = reading_later e v so.begun count r.lists r.fetches r.rebuild.heard r.rebuild.listed r.rebuild.reads so.reading

  -- it goes on with this rebuild, and says nothing
  goes_on : (t : RebuildState) → t.server ≡ r.rebuild.server → t.groups ≡ r.rebuild.groups
      → ReadingSo e v so.begun (suc count) r.lists r.fetches t.heard t.listed t.reads → Leads e v count (after node r (still t))
  goes_on t server groups reads = λ acted.
      let low = so.since in
      record {
        state = record {
          item = so.item;
          waits = so.waits;
          begun = so.begun;
          began = so.began;
          since = omega arith;
          server = server ∙ so.server;
          known = so.known ∙ ap Some (sym groups);
          reading = reads;
        };
        outs = tt;
      }

  pub stays : Leads e v count (after node r (still r.rebuild))
  stays = goes_on r.rebuild refl refl reading

  -- ---- a list

  module _ (its : node_named (moment e count) (nodes.Server v) ≡ Some (any.Server node)) (server : ℕ) (m : Listed)
      (come : HasCome e (nodes.Server v) so.begun (suc count) (nodes.Server server) (body.Listed m))
      (under_way : node.rebuilding ≡ Some r) (its_ask : m.ask ≡ r.lists) where
    abbrev t : RebuildState
    t = heard_from r.rebuild server m.held

    with_list : ListsSo e v so.begun (suc count) r.lists r.rebuild.heard r.rebuild.listed → ListsSo e v so.begun (suc count) r.lists t.heard t.listed
    with_list l = record {
      lists = l.lists ++ (server, m) ∷ [];
      come = all_append (ListCame e (nodes.Server v) so.begun (suc count)) l.lists ((server, m) ∷ []) l.come (come, tt);
      asked = all_append (IsAskedAs r.lists) l.lists ((server, m) ∷ []) l.asked (its_ask, tt);
      heard_of = ap (λ (xs : List ℕ). xs ++ server ∷ []) l.heard_of ∙ sym (map-append (λ (list : ℕ × Listed). list.0) l.lists ((server, m) ∷ []));
      listed_of = ap (listed_with m.held) l.listed_of ∙ sym (listed_more l.lists (server, m));
    }

    abbrev wanted : List Wanted
    wanted = wanted_in t.server t.groups (values_of (remove_names (barred node.shelf) t.listed))

    lacking : r.rebuild.reads ≡ None → (l : ListsSo e v so.begun (suc count) r.lists t.heard t.listed) → (length (awaited t) == 0) ≡ true
        → IsLacking e v so.begun (suc count) wanted
    lacking none l fact = record {
      place = count;
      since = so.since;
      before = omega arith;
      node = node;
      its = its;
      rebuilding = r;
      under_way = under_way;
      awaits = none;
      groups = r.rebuild.groups;
      known = so.known;
      lists = l.lists;
      come = l.come;
      asked = l.asked;
      all = λ from one top other. subst (λ (xs : List ℕ). In from xs) l.heard_of (all_told t fact from one top (λ same. other (same ∙ so.server)));
      lacks = ap (λ (n : ℕ). wanted_in n t.groups (values_of (remove_names (barred node.shelf) t.listed))) so.server
          ∙ ap (λ (entries : List (SegName × FragMeta)). wanted_in v t.groups (values_of (remove_names (barred node.shelf) entries))) l.listed_of;
    }

    begins : r.rebuild.reads ≡ None → (l : ListsSo e v so.begun (suc count) r.lists t.heard t.listed) → (length (awaited t) == 0) ≡ true
        → Leads e v count (after node r (rebuild_begin t (barred node.shelf)))
    begins none l fact =
        next_leads e v count node r (record t { listed = remove_names (barred node.shelf) t.listed }) wanted (reads_of wanted)
        (record {
          item = so.item;
          waits = so.waits;
          begun = so.begun;
          began = so.began;
          since = so.since;
          server = so.server;
          known = so.known;
          behind = record {
            wanted = wanted;
            lacking = lacking none l fact;
            over = [];
            many = 0;
            lost = 0;
            counted = NoneYet;
            whole = refl;
            fills = zero_least u32_end;
            losses = zero_least u32_end;
          };
        })

    heard : r.rebuild.reads ≡ None → Leads e v count (after node r (begun_if_all t (barred node.shelf)))
    heard none =
        let l = with_list (subst (λ (o : Option ReadsState). ReadingSo e v so.begun (suc count) r.lists r.fetches r.rebuild.heard r.rebuild.listed o) none reading) in
        by_test (λ (d : Stepped RebuildState Out). Leads e v count (after node r d)) (length (awaited t) == 0) (rebuild_begin t (barred node.shelf)) (still t)
        (λ fact. begins none l fact)
        (λ _. goes_on t refl refl
        (subst (λ (o : Option ReadsState). ReadingSo e v so.begun (suc count) r.lists r.fetches t.heard t.listed o) (sym none) l))

    pub listed : Leads e v count (after node r (on_listed r.rebuild server m.held (barred node.shelf)))
    unfolding on_listed
    listed =
        by_test (λ (d : Stepped RebuildState Out). Leads e v count (after node r d)) (is_some r.rebuild.reads || not (awaits r.rebuild server))
        (still r.rebuild) (begun_if_all t (barred node.shelf)) (λ _. stays)
        (λ fact. heard (none_of r.rebuild.reads (not (awaits r.rebuild server)) fact))

  -- ---- what a server tells of its fragment

  abbrev Goes : Done → Type 0
  Goes d = shelf_at (moment e (suc count)) v ≡ Some d.state.shelf → Leads e v count d

  module _ (server own : ℕ) (what : Told)
      (told : (name : SegName) → HasFetched e (nodes.Server v) so.begun count name r.fetches.ask server
      → HasTold e (nodes.Server v) so.begun (suc count) name r.fetches.ask server what) where
    open_at : (shelf : ShelfState) (left : List Wanted) (reads : ReadsState) → Behind e v so.begun (suc count) left reads.filled reads.gone
        → Open e v count (record node { shelf = shelf }) r.rebuild left reads
    open_at shelf left reads behind = record {
      item = so.item;
      waits = so.waits;
      begun = so.begun;
      began = so.began;
      since = so.since;
      server = so.server;
      known = so.known;
      behind = behind;
    }

    module _ (reads : ReadsState) (p : Present) (left : Behind e v so.begun (suc count) (p.wanted ∷ reads.left) reads.filled reads.gone)
        (present : PresentSo e v so.begun (suc count) r.fetches reads.ask p) (fits : IsReplyOf p.wanted (record { server = server; told = what }))
        (asked : HasFetched e (nodes.Server v) so.begun count p.wanted.meta.name r.fetches.ask server) where
      abbrev round : RoundSoFar
      round = round_take p.round server what

      taken : PresentSo e v so.begun (suc count) r.fetches reads.ask (record { wanted = p.wanted; round = round })
      taken = round_taken e v so.begun (suc count) r.fetches reads.ask p server what present fits (told p.wanted.meta.name asked)

      stands_so : (st : RoundState) → state_of round ≡ st → RoundStands e v so.begun (suc count) p.wanted st
      stands_so st fact = record { ask = r.fetches.ask; replies = round.answers; come = taken.come; fit = taken.fit; is = ap state_of (sym taken.is) ∙ fact }

      -- a fragment is filled in
      fills : (text : List ℕ) → state_of round ≡ Read text → Goes (after node r (with_reads r.rebuild (reads_judge reads p.wanted round (Read text))))
      unfolding says
      fills text fact at =
          let f : Fragment = refilled p.wanted text in
          let now : ReadsState = record reads { filled = one_more reads.filled } in
          let full : Node = record node { shelf = on_fill node.shelf f } in
          let low = so.since in
          let same : (steps says (with_reading e v count full r r.rebuild (go_on reads.left now).state) (go_on reads.left now).outs).state.shelf
          ≡ on_fill node.shelf f =
          next_shelf reads.left now (with_reading e v count full r r.rebuild (go_on reads.left now).state) in
          next_leads e v count full r r.rebuild reads.left now
          (open_at (on_fill node.shelf f) reads.left now
          (filled_one e v so.begun (suc count) p.wanted reads.left reads.filled reads.gone left
          (record {
            text = text;
            read = stands_so (Read text) fact;
            place = count;
            since = low;
            before = omega arith;
            shelf = on_fill node.shelf f;
            its = at ∙ ap Some same;
            stands = subst (λ (name : SegName). (is_held (on_fill node.shelf f) name || is_marked (on_fill node.shelf f).marks name) ≡ true)
                (filled_name p.wanted text) (fill_stands f node.shelf);
          })))

      judged : (st : RoundState) → state_of round ≡ st → Goes (after node r (with_reads r.rebuild (reads_judge reads p.wanted round st)))
      judged (Read text) fact = fills text fact
      judged (Short pairs) fact = λ at.
          let now : ReadsState = record reads { gone = one_more reads.gone } in
          next_leads e v count node r r.rebuild reads.left now
          (open_at node.shelf reads.left now
          (gone_one e v so.begun (suc count) p.wanted reads.left reads.filled reads.gone left (record { pairs = pairs; short = stands_so (Short pairs) fact })))
      judged Waiting fact = λ at.
          goes_on (record r.rebuild { reads = Some (record reads { present = Some (record { wanted = p.wanted; round = round }) }) }) refl refl
          (record { behind = left; present = taken })

    reads_told : (reads : ReadsState) → ReadsSo e v so.begun count r.fetches reads → ReadsSo e v so.begun (suc count) r.fetches reads → (p : Option Present)
        → reads.present ≡ p → Goes (after node r (with_reads r.rebuild (answered reads p own server what)))
    reads_told reads was h None same = λ at. goes_on (record r.rebuild { reads = Some reads }) refl refl h
    reads_told reads was h (Some p) same =
        let before = subst (λ (o : Option Present). IfSome o (PresentSo e v so.begun count r.fetches reads.ask)) same was.present in
        let left = subst (λ (o : Option Present). Behind e v so.begun (suc count) (here o ++ reads.left) reads.filled reads.gone) same h.behind in
        let present = subst (λ (o : Option Present). IfSome o (PresentSo e v so.begun (suc count) r.fetches reads.ask)) same h.present in
        by_test (λ (d : Stepped ReadsState Out). Goes (after node r (with_reads r.rebuild d))) ((own == reads.ask) && counts p server what)
        (reads_judge reads p.wanted (round_take p.round server what) (state_of (round_take p.round server what))) (still reads)
        (λ fact.
        let fits = reply_of p present.is server what (and_second (own == reads.ask) (counts p server what) fact) in
        judged reads p left present fits
        (one_among (AskedOf e v so.begun count p.wanted.meta.name r.fetches reads.ask) p.wanted.others server before.asked fits.0).1
        (state_of (round_take p.round server what)) refl)
        (λ _ at. goes_on (record r.rebuild { reads = Some reads }) refl refl h)

    pub tells : Goes (after node r (told_by r.rebuild r.rebuild.reads own server what))
    unfolding reads_take
    tells = by r.rebuild.reads refl
      where
        by : (o : Option ReadsState) → r.rebuild.reads ≡ o → Goes (after node r (told_by r.rebuild o own server what))
        by None same = λ at. stays
        by (Some reads) same =
            reads_told reads
            (subst (λ (o : Option ReadsState). ReadingSo e v so.begun count r.lists r.fetches r.rebuild.heard r.rebuild.listed o) same so.reading)
            (subst (λ (o : Option ReadsState). ReadingSo e v so.begun (suc count) r.lists r.fetches r.rebuild.heard r.rebuild.listed o) same reading)
            reads.present refl
