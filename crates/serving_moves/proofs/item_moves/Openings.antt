-- The opening of a log answers no item, and where it ends because a segment is lost, it says so last; so what it makes of the items of its node.
use Rattle.std.proofs.Common.{ℕ, List, [], ◌∷◌, ◌++◌, append_assoc, Option, Some, None, inl, refl, sym, ap, subst, ◌∙◌}
use Rattle.client_log.specs.declared.input.In.{In as LogIn}
use Rattle.client_log.specs.declared.input.In.TheVariants as log_in
use Rattle.client_log.specs.Transition as log
use Rattle.group_map.specs.GroupMapState.{GroupMapState}
use Rattle.log_owner.specs.Behaves.{Behaves, MayAct, MayDo}
use Rattle.log_owner.specs.declared.ended.Owner.{Owner}
use Rattle.log_owner.specs.declared.known.Known.{Known}
use Rattle.log_owner.specs.declared.opened.Progress.{Progress}
use Rattle.log_owner.specs.declared.opened.Progress.TheVariants as progress
use Rattle.log_owner.specs.declared.opening.Opening.{Opening}
use Rattle.log_owner.specs.declared.opening.Scanning.{Scanning}
use Rattle.log_owner.specs.declared.opening.Settling.{Settling}
use Rattle.log_owner.specs.declared.opening.Stage.{Stage}
use Rattle.log_owner.specs.declared.opening.Stage.TheVariants as stage
use Rattle.log_owner.specs.Opening.{Moved, Went, known_scanning, behind, known_follow, logged, opening_take, on_tick, known_go_on, sent_send, scanned, scans_on, settles_over, welcomed, welcomed_with, known_write, written}
use Rattle.log_scan.specs.declared.input.In.{In as ScanIn}
use Rattle.log_scan.specs.declared.input.In.TheVariants as input
use Rattle.log_scan.specs.declared.output.Out.{Out}
use Rattle.log_scan.specs.declared.output.Out.TheVariants as out
use Rattle.log_scan.specs.Transition as scan
use Rattle.node_base.specs.Asking.{asked_as, drawn_for}
use Rattle.node_base.specs.declared.effects.Effect.{Effect}
use Rattle.node_base.specs.declared.effects.Effect.TheVariants.{Send, Answer as Answers, Lose, Does}
use Rattle.node_base.specs.declared.questions.Asked.{Asked}
use Rattle.node_base.specs.declared.questions.Questions.{Questions}
use Rattle.node_base.specs.Maps.{maps_take}
use Rattle.node_base.specs.Shape.{is_log}
use Rattle.token_protocol.specs.Basics.{In}
use Rattle.version_model.specs.declared.act.Act.{Act}
use Rattle.version_model.specs.declared.act.Act.TheVariants as act
use Rattle.wire_msg.specs.declared.packet.Packet.{Packet}
use Rattle.wire_msg.specs.declared.registry.News.{News}
use Rattle.xfs_base.proofs.Booleans.{by_test}
use Rattle.xfs_base.specs.declared.segment.End.{End}
use Rattle.xfs_base.specs.Steps.{saying, steps, still}
use Rattle.log_owner.proofs.Behaving as behaving
use Rattle.node_base.specs.Beginning.{items_answer, answers_unanswered}
use Rattle.node_base.specs.declared.items.Items.{Items}
use Rattle.version_model.specs.declared.answer.Answer.{Answer}
use Rattle.version_model.specs.declared.answer.Answer.TheVariants as answer
use Rattle.xfs_base.proofs.Alls.{all_weaker}
use Rattle.xfs_base.specs.declared.segment.SegName.{SegName}
use Rattle.serving_moves.proofs.item_moves.Keeping.{all_plain_more, all_returning, in_behind, no_loss_told, same}
use Rattle.node_moves.proofs.OpeningWalk.{Any, Walk, packet_so, tick_so}
use Rattle.serving_moves.proofs.item_moves.Settling.{packet_settles, stage_plain, tick_settles}
use Rattle.serving_moves.specs.item_moves.Events.{client_log_losses, log_losses}
use Rattle.serving_moves.specs.item_moves.Moves.{AllPlain, EndsInLoss, IsAside, IsPlain, MayAnswer, Moves, Losses}
use Rattle.serving_moves.specs.item_moves.Moves.Move.{Stays, Ends, Loses}
use Rattle.serving_moves.specs.item_moves.Moves.Moves.{Last, Then}
use Rattle.serving_moves.specs.item_moves.Moves.Losses.{Reading, Answering}

-- ---- it answers nothing

act_plain : (a : Act) → MayAct a → IsAside a
act_plain (act.Filed seg) may = tt
act_plain _ may = absurd may

one_plain : (owner : Owner) (e : Effect) → MayDo owner e → IsPlain Reading e
one_plain owner (Send to said) may = tt
one_plain owner (Answers item a) may = absurd may
one_plain owner (Lose name) may = tt
one_plain owner (Does a) may = act_plain a may

pub behaves_aside : (owner : Owner) (w : Went) → Behaves owner w → AllPlain Reading w.effects
behaves_aside owner w b = all_weaker (MayDo owner) (IsPlain Reading) (one_plain owner) w.effects b.does

pub behaves_plain : (owner : Owner) (w : Went) → Behaves owner w → AllPlain Answering w.effects
behaves_plain owner w b = all_plain_more Reading w.effects (behaves_aside owner w b)

-- ---- it says what is lost

-- where it ends because a segment is lost, that is the last that is said
abbrev pub SaysLoss : Progress → List Effect → Type 0
SaysLoss (progress.Opening o) outs = Unit {0}
SaysLoss (progress.Opened o) outs = Unit {0}
SaysLoss (progress.Lost name) outs = EndsInLoss name outs

abbrev WentSo : Went → Type 0
WentSo w = SaysLoss w.progress w.effects

abbrev MovedSo : Moved → Type 0
MovedSo m = SaysLoss m.state m.outs

said_after : (outs : List Effect) (m : Moved) → MovedSo m → MovedSo (saying outs m)
said_after outs m so = by m.state m.outs so
  where
    by : (p : Progress) (more : List Effect) → SaysLoss p more → SaysLoss p (outs ++ more)
    by (progress.Opening o) more h = tt
    by (progress.Opened o) more h = tt
    by (progress.Lost name) more h = (outs ++ h.0, ap (λ (xs : List Effect). outs ++ xs) h.1 ∙ sym (append_assoc outs h.0 (Lose name ∷ [])))

known_go_on_so : (k : Known) (s : Settling) (settled : Option End) → MovedSo (known_go_on k s settled)
known_go_on_so k s None = tt
known_go_on_so k s (Some end) = tt

logged_so : (k : Known) (s : Settling) (r : log.Done) → MovedSo (logged k s r)
logged_so k s r =
    said_after (written r.outs).outs (known_go_on k (record s { log = r.state }) (written r.outs).state)
    (known_go_on_so k (record s { log = r.state }) (written r.outs).state)

known_write_so : (k : Known) (s : Settling) (i : LogIn) → MovedSo (known_write k s i)
unfolding known_write
known_write_so k s i = logged_so k s (log.transition s.log i)

settles_so : (k : Known) (s : Scanning) (chain : _) (groups : Option GroupMapState) → MovedSo (settles_over k s chain groups)
settles_so k s chain None = tt
settles_so k s chain (Some groups) =
    by_test MovedSo (is_log k.owner.log.0) (known_write k (behind k chain groups) (log_in.Parts [])) (still (known_scanning k s))
    (λ _. known_write_so k (behind k chain groups) (log_in.Parts [])) (λ _. tt)

none_ended : (k : Known) (s : Scanning) → MovedSo (known_follow k s None)
unfolding known_follow
none_ended k s = tt

-- whatever the scan said, what is next says what is lost
ended_so : (its : Owner) (low : ℕ) (a : Asked) (p : Questions) (e : _) (outs : List Out) → ((k : Known) (s : Scanning) → MovedSo (known_follow k s e))
    → (k : Known) (s : Scanning) → MovedSo (known_follow k s (steps (sent_send its low) (record { asked = a; questions = p; ended = e }) outs).state.ended)
unfolding known_follow sent_send
ended_so its low a p e [] ends = ends
ended_so its low a p e (out.Hello own ∷ outs) ends = ended_so its low (asked_as a p own) (drawn_for a p own) e outs ends
ended_so its low a p e (out.Fence server ∷ outs) ends = ended_so its low a p e outs ends
ended_so its low a p e (out.Fetch server name own ∷ outs) ends = ended_so its low (asked_as a p own) (drawn_for a p own) e outs ends
ended_so its low a p e (out.Chain segments end prior ∷ outs) ends = ended_so its low a p _ outs (λ k s. settles_so k s _ k.maps.groups)
ended_so its low a p e (out.Lost name ∷ outs) ends = ended_so its low a p _ outs (λ k s. ([], refl))

scans_on_so : (k : Known) (q : Questions) (s : Scanning) (i : ScanIn) → WentSo (scans_on k q s i)
unfolding scans_on
scans_on_so k q s i =
    let d = scan.transition s.scan i in
    let r = scanned k.owner d.state.opening.low s.asked q d.outs in
    let next : Scanning = record { scan = d.state; asked = r.state.asked } in
    said_after r.outs (known_follow k next r.state.ended) (ended_so k.owner d.state.opening.low s.asked q None d.outs none_ended k next)

-- ---- the events

with_so : (k : Known) (q : Questions) (s : Scanning) (news : News) (own : ℕ) (groups : Option GroupMapState) → WentSo (welcomed_with k q s news own groups)
with_so k q s news own None = tt
with_so k q s news own (Some groups) = scans_on_so _ q _ (input.Welcome own news.slots groups)

welcomed_so : (k : Known) (q : Questions) (s : Scanning) (news : News) (own : ℕ) → WentSo (welcomed k q s news own)
unfolding welcomed
welcomed_so k q s news own = with_so (record k { maps = maps_take k.maps news }) q s news own (maps_take k.maps news).groups

walk : Walk Any (λ k q at w. WentSo w)
walk = record {
  rests = λ o q. tt;
  asks = λ o q. tt;
  scan = λ k q s i comes. scans_on_so k q s i;
  log = λ k q s i heard. known_write_so k s i;
  welcome = λ from k q s m own said. welcomed_so k q s m.news own;
  newer = λ from k news q at w said fact. fact;
}

-- ---- what it makes of the items of its node

-- it answers nothing, says that a segment is lost only while it scans its log, and, where it ends so, last of all
pub record Goes (o : Opening) (w : Went) : Type 0 where
  pub plain : AllPlain (log_losses o.stage) w.effects
  pub says : SaysLoss w.progress w.effects

pub packet_goes : (o : Opening) (q : Questions) (p : Packet) → Goes o (opening_take o q p)
packet_goes o q p = record {
  plain = stage_plain o.stage (opening_take o q p).effects (behaves_aside o.known.owner (opening_take o q p) (behaving.packet_so o q p)) (packet_settles o q p);
  says = packet_so Any (λ k q at w. WentSo w) walk o q p tt;
}

pub tick_goes : (o : Opening) (q : Questions) → Goes o (on_tick o q)
tick_goes o q = record {
  plain = stage_plain o.stage (on_tick o q).effects (behaves_aside o.known.owner (on_tick o q) (behaving.tick_so o q)) (tick_settles o q);
  says = tick_so Any (λ k q at w. WentSo w) walk o q;
}

-- what is said last is said
ends_in : (name : SegName) (outs : List Effect) → EndsInLoss name outs → In (Lose name) outs
ends_in name outs ends = subst (In (Lose name)) (sym ends.1) (in_behind (Lose name) ends.0 (Lose name ∷ []) (inl refl))

-- only one that scans its log says so
pub may_answer : (at : Stage) (outs : List Effect) (name : SegName) → AllPlain (log_losses at) outs → EndsInLoss name outs → MayAnswer (log_losses at)
may_answer (stage.Scanning s) outs name plain ends = tt
may_answer (stage.Settling s) outs name plain ends = absurd (no_loss_told outs name plain (ends_in name outs ends))

-- the same of a client
pub client_plain : (at : Stage) (outs : List Effect) → AllPlain (log_losses at) outs → AllPlain (client_log_losses at) outs
client_plain (stage.Scanning s) outs plain = all_plain_more Reading outs plain
client_plain (stage.Settling s) outs plain = all_returning outs plain

pub client_may_answer : (at : Stage) → MayAnswer (log_losses at) → MayAnswer (client_log_losses at)
client_may_answer (stage.Scanning s) may = tt
client_may_answer (stage.Settling s) may = may

pub may_be_back : (at : Stage) (client : ℕ) (chain : List SegName) → IsPlain (client_log_losses at) (Does (act.Back client chain))
may_be_back (stage.Scanning s) client chain = tt
may_be_back (stage.Settling s) client chain = tt

module _ (losses : Losses) (J : Answer → Type 0) (items : Items) (outs : List Effect) (plain : AllPlain losses outs) where
  -- it goes on, or is over, and says so; or a segment is lost
  pub goes_on : Moves losses J items (outs ++ []) items
  goes_on = Then items outs [] (Stays (same items) plain) (Last (Stays (same items) tt))

  pub is_back : J answer.Done → (more : List Effect) → AllPlain losses more
      → Moves losses J items (outs ++ (more ++ answers_unanswered items.unanswered answer.Done)) (items_answer items)
  is_back so more rest =
      Then items outs _ (Stays (same items) plain) (Then items more _ (Stays (same items) rest) (Last (Ends answer.Done so)))

  pub is_lost : (name : SegName) → MayAnswer losses → EndsInLoss name outs → Moves losses J items (outs ++ answers_unanswered items.unanswered (answer.Lost name)) (items_answer items)
  is_lost name may ends = Last (Loses name outs may plain ends)
