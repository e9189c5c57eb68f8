-- A client that doesn't serve says nothing of tokens, and takes nothing of them.
use Rattle.std.proofs.Common.{◌≡◌, inl, inr, ℕ, true, false, [], ◌∷◌, Option, Some, None, refl, sym, ap, subst}
use Rattle.std.proofs.lemmas.List.Elements.{All-nil, All-cons}
use Rattle.client_node.specs.declared.client.Client.{Client}
use Rattle.client_node.specs.declared.phase.Phase.TheVariants.{Down, Opening, Serving as Serves}
use Rattle.client_node.specs.declared.phase.Phase.{Phase}
use Rattle.client_node.specs.Phases.{stepped, Went_to, phase_after, begins_item, client_has_room, cut, down_begins, happens, item_begins, lasting_of, on_begin, on_deliver, client_tick, opened_on, opening_begins, owner_of, restart, takes, wish_of, with_begun}
use Rattle.client_serving.specs.declared.lasting.Lasting.{Lasting}
use Rattle.client_serving.specs.Lasting.{live_on}
use Rattle.log_owner.specs.Behaves.{Behaves, MayDo, MaySay}
use Rattle.log_owner.specs.declared.ended.Owner.{Owner}
use Rattle.log_owner.specs.declared.opened.Progress.{Progress}
use Rattle.log_owner.specs.declared.opened.Progress.TheVariants as progress
use Rattle.log_owner.specs.declared.opening.Opening as openings
use Rattle.log_owner.specs.Opening as opening
use Rattle.log_owner.specs.Opening.{Went}
use Rattle.log_owner.specs.Sending.{hello, push_all}
use Rattle.log_owner.proofs.Behaving as behaving
use Rattle.node_base.specs.Asking.{draw, next_ask}
use Rattle.node_base.specs.Beginning.{next_item, work_at}
use Rattle.node_base.specs.declared.effects.Effect.{Effect}
use Rattle.node_base.specs.declared.effects.Effect.TheVariants.{Send}
use Rattle.node_base.specs.declared.questions.Questions.{Questions}
use Rattle.node_base.specs.Known.{names_known_groups}
use Rattle.node_base.specs.Shape.{is_well_formed}
use Rattle.version_model.specs.declared.answer.Answer.TheVariants as answer
use Rattle.version_model.specs.declared.work.Work.{Work}
use Rattle.version_model.specs.declared.work.Work.TheVariants as work
use Rattle.wire_msg.specs.declared.body.Body.{Body}
use Rattle.wire_msg.specs.declared.body.Body.TheVariants as body
use Rattle.wire_msg.specs.declared.packet.Do.{Do}
use Rattle.wire_msg.specs.declared.packet.Do.TheVariants.{Begin, Deliver, Tick}
use Rattle.wire_msg.specs.declared.packet.Packet.{Packet}
use Rattle.xfs_base.specs.declared.node.NodeId.{NodeId}
use Rattle.xfs_base.specs.declared.node.NodeId.TheVariants.{Client as AClient}
use Rattle.xfs_base.specs.Steps.{still}
use Rattle.xfs_base.proofs.Booleans.{by_test, contrary}
use Rattle.xfs_base.proofs.Alls.{all_append, all_weaker}
use Rattle.node_slots.specs.client_law.Unserving.{IsUnmoved, SaysNothingOfTokens, TakesNothingOfTokens, asks_for_maps, is_about_tokens, serves, tells_of_tokens, with_question}
use Rattle.node_slots.proofs.client_law.Effects.{AllSay, Says, answers_say, packets_say, pushes_say}

-- ---- what it says

abbrev IsUntold : Body → Type 0
IsUntold said = tells_of_tokens said ≡ false

abbrev SaysNone : Went_to → Type 0
SaysNone w = AllSay IsUntold w.outs

-- an opening may say nothing of tokens
may_say : (owner : Owner) (to : NodeId) (said : Body) → MaySay owner to said → IsUntold said
may_say owner to (body.Want m) may = absurd may
may_say owner to (body.Gave m) may = absurd may
may_say owner to (body.Report m) may = absurd may
may_say owner to (body.Supply m) may = absurd may
may_say owner to _ may = refl

may_do : (owner : Owner) (effect : Effect) → MayDo owner effect → Says IsUntold effect
may_do owner (Send to said) may = may_say owner to said may
may_do owner _ may = tt

opening_says : (owner : Owner) (w : Went) → Behaves owner w → AllSay IsUntold w.effects
opening_says owner w b = all_weaker (MayDo owner) (Says IsUntold) (may_do owner) w.effects b.does

-- once its log is open, it tells the managers of its log, and answers its item
back_says : (l : Lasting) (capacity : ℕ) (p : Progress) → SaysNone (phase_after l capacity p)
back_says l capacity (progress.Opening o) = tt
back_says l capacity (progress.Opened o) = (
  tt,
  all_append (Says IsUntold) (push_all o.promised.managers o.feed) _ (pushes_say IsUntold (λ m. refl) o.promised.managers o.feed)
      (answers_say IsUntold l.items.unanswered answer.Done),
)
back_says l capacity (progress.Lost seg) = answers_say IsUntold l.items.unanswered (answer.Lost seg)

opened_says : (l : Lasting) (capacity : ℕ) (owner : Owner) (w : Went) → Behaves owner w → SaysNone (opened_on l capacity w)
opened_says l capacity owner w b =
    let done : Went_to = phase_after (record l { questions = w.questions }) capacity w.progress in
    all_append (Says IsUntold) w.effects done.outs (opening_says owner w b) (back_says (record l { questions = w.questions }) capacity w.progress)

crashed_says : (l : Lasting) (number : ℕ) → SaysNone (cut l number)
crashed_says l number = all_append (Says IsUntold) _ _ (answers_say IsUntold l.items.unanswered answer.Cut) (tt, tt)

restarted_says : (servers : ℕ) (l : Lasting) → SaysNone (restart servers l)
restarted_says servers l = opening_says (owner_of l) (opening.on_start (owner_of l) servers l.questions) (behaving.begin_so (owner_of l) servers l.questions)

down_says : (servers : ℕ) (l : Lasting) (number : ℕ) (w : Option Work) → SaysNone (down_begins servers l number (wish_of w))
down_says servers l number (Some (work.Restart node)) = restarted_says servers (live_on l number)
down_says servers l number (Some (work.Crash node)) = (tt, tt)
down_says servers l number None = (tt, tt)
down_says servers l number (Some other) = (tt, tt)

opening_begins_says : (l : Lasting) (o : openings.Opening) (number : ℕ) (w : Option Work) → SaysNone (opening_begins l o number (wish_of w))
opening_begins_says l o number (Some (work.Crash node)) = crashed_says l number
opening_begins_says l o number (Some (work.Restart node)) = (tt, tt)
opening_begins_says l o number None = (tt, tt)
opening_begins_says l o number (Some other) = (tt, tt)

begun_says : (servers : ℕ) (phase : Phase) → serves phase ≡ false → (number : ℕ) (w : Option Work) → SaysNone (item_begins servers phase number (wish_of w))
begun_says servers (Down l) unserving number w = down_says servers l number w
begun_says servers (Opening l o) unserving number w = opening_begins_says l o number w
begun_says servers (Serves s) unserving number w = contrary (sym unserving)

with_begun_serves : (phase : Phase) → serves phase ≡ false → serves (with_begun phase) ≡ false
with_begun_serves (Down l) h = refl
with_begun_serves (Opening l o) h = refl
with_begun_serves (Serves s) h = h

begins_says : (servers : ℕ) (phase : Phase) → serves phase ≡ false → (number : Option ℕ) → SaysNone (begins_item servers phase number)
begins_says servers phase unserving None = tt
begins_says servers phase unserving (Some number) =
    let p : Phase = with_begun phase in
    begun_says servers p (with_begun_serves phase unserving) number (work_at (lasting_of p).items number)

on_begin_says : (servers : ℕ) (phase : Phase) → serves phase ≡ false → SaysNone (on_begin servers phase)
unfolding on_begin
on_begin_says servers phase unserving = begins_says servers phase unserving (next_item (lasting_of phase).items)

on_deliver_says : (capacity : ℕ) (phase : Phase) → serves phase ≡ false → (packet : Packet) → SaysNone (on_deliver capacity phase packet)
unfolding on_deliver
on_deliver_says capacity (Down l) unserving packet = tt
on_deliver_says capacity (Opening l o) unserving packet =
    opened_says l capacity o.known.owner (opening.opening_take o l.questions packet) (behaving.packet_so o l.questions packet)
on_deliver_says capacity (Serves s) unserving packet = contrary (sym unserving)

client_tick_says : (capacity : ℕ) (phase : Phase) → serves phase ≡ false → SaysNone (client_tick capacity phase)
unfolding client_tick
client_tick_says capacity (Down l) unserving = tt
client_tick_says capacity (Opening l o) unserving = opened_says l capacity o.known.owner (opening.on_tick o l.questions) (behaving.tick_so o l.questions)
client_tick_says capacity (Serves s) unserving = contrary (sym unserving)

happens_says : (client : Client) (what : Do) → serves client.phase ≡ false → SaysNone (happens client what)
happens_says client Begin unserving = on_begin_says client.peers.servers client.phase unserving
happens_says client (Deliver packet) unserving =
    by_test SaysNone (is_well_formed client.peers packet) (on_deliver client.cache client.phase packet) (still client.phase)
    (λ t. on_deliver_says client.cache client.phase unserving packet) (λ t. tt)
happens_says client Tick unserving = client_tick_says client.cache client.phase unserving

takes_says : (client : Client) (what : Do) → serves client.phase ≡ false → SaysNone (takes client what)
takes_says client what unserving =
    by_test SaysNone (client_has_room client) (happens client what) (still client.phase) (λ t. happens_says client what unserving) (λ t. tt)

pub says_nothing : SaysNothingOfTokens
says_nothing client what unserving =
    packets_say IsUntold (AClient (lasting_of client.phase).number) (takes client what).outs (takes_says client what unserving)

-- ---- what it takes

abbrev IsQuestion : Body → Type 0
IsQuestion said = asks_for_maps said ≡ true

-- ---- an opening drops what is about tokens

drops_tokens : (o : openings.Opening) (q : Questions) (from : NodeId) (said : Body) → is_about_tokens said ≡ true
    → opening.on_body o q from said ≡ opening.drops o q
unfolding opening.on_body
drops_tokens o q from (body.Grant m) about = refl
drops_tokens o q from (body.Supply m) about = refl
drops_tokens o q from (body.Forward m) about = refl
drops_tokens o q from (body.Recall m) about = refl
drops_tokens o q from (body.Gone m) about = refl
drops_tokens o q from (body.Poll m) about = refl
drops_tokens o q from _ about = contrary about

-- what is done leaves the phase, or has it ask for the maps
abbrev IsUnmovedBy : Client → Went_to → Type 0
IsUnmovedBy client w = IsUnmoved client.phase (stepped client w)

stays : (client : Client) → IsUnmovedBy client (still client.phase)
stays client = record { phase_is = inl refl; sends = All-nil (λ (p : Packet). IsQuestion p.body); acts = refl }

abbrev asks_maps : Lasting → openings.Opening → Went
asks_maps l o = opening.went (progress.Opening o) (draw l.questions) (hello o.known.owner.inc (next_ask l.questions) ∷ [])

module _ (client : Client) (packet : Packet) (about : is_about_tokens packet.body ≡ true) where
  opening_unmoved : (l : Lasting) (o : openings.Opening) → client.phase ≡ Opening l o
      → IsUnmovedBy client (opened_on l client.cache (opening.opening_take o l.questions packet))
  unfolding opening.opening_take
  opening_unmoved l o fact =
      by_test (λ (w : Went). IsUnmovedBy client (opened_on l client.cache w)) (names_known_groups o.known.maps packet.body)
      (opening.on_body o l.questions packet.from packet.body) (asks_maps l o)
      (λ t. subst (λ (w : Went). IsUnmovedBy client (opened_on l client.cache w)) (sym (drops_tokens o l.questions packet.from packet.body about))
      (record { phase_is = inl (sym fact); sends = All-nil (λ (p : Packet). IsQuestion p.body); acts = refl }))
      (λ t. record {
        phase_is = inr (ap with_question (sym fact));
        sends = All-cons (λ (p : Packet). IsQuestion p.body) _ [] refl (All-nil (λ (p : Packet). IsQuestion p.body));
        acts = refl;
      })

  deliver_unmoved : (phase : Phase) → client.phase ≡ phase → serves phase ≡ false → IsUnmovedBy client (on_deliver client.cache phase packet)
  unfolding on_deliver
  deliver_unmoved (Down l) fact unserving = record { phase_is = inl (sym fact); sends = All-nil (λ (p : Packet). IsQuestion p.body); acts = refl }
  deliver_unmoved (Opening l o) fact unserving = opening_unmoved l o fact
  deliver_unmoved (Serves s) fact unserving = contrary (sym unserving)

pub takes_nothing : TakesNothingOfTokens
takes_nothing client packet unserving about =
    by_test (IsUnmovedBy client) (client_has_room client) (happens client (Deliver packet)) (still client.phase)
    (λ t. by_test (IsUnmovedBy client) (is_well_formed client.peers packet) (on_deliver client.cache client.phase packet) (still client.phase)
    (λ formed. deliver_unmoved client packet about client.phase refl unserving) (λ ill. stays client)) (λ t. stays client)
