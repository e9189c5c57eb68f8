-- Steps one after another, and steps that change one board or none.
use Rattle.std.proofs.Common.{◌≡◌, ◌==◌, ℕ, suc, List, [], ◌∷◌, ◌++◌, refl, sym, ap, ◌∙◌, subst, if◌then◌else◌, append_assoc, append-nil}
use Rattle.std.proofs.lemmas.Bool.Decides.{Decides-eqb}
use Rattle.xfs_base.proofs.Booleans.{by_test}
use Rattle.xfs_base.specs.Steps.{still, saying}
use Rattle.board_protocol.specs.Basics.{put}
use Rattle.board_protocol.specs.Board as protocol
use Rattle.board_protocol.specs.Growth.{Grows}
use Rattle.board_protocol.specs.Step.{Step, Steps}
use Rattle.board_protocol.specs.Step.Steps.{Done as Ended, More}
use Rattle.board_protocol.specs.World.{World, start}
use Rattle.board_protocol.proofs.Laws.{grows}
use Rattle.board.specs.declared.command.Command.{Command}
use Rattle.board.specs.declared.output.Out.{Out}
use Rattle.board.specs.declared.output.Out.TheVariants.{Send, Apply}
use Rattle.board.specs.declared.packet.BoardBody.{BoardBody}
use Rattle.board.specs.declared.packet.BoardBody.TheVariants.{Prepare, Promised, Install, Append, Accepted}
use Rattle.board.specs.State.{BoardState}
use Rattle.board.specs.Transition.{Done, send, send_other, send_others}
use Rattle.board_law.specs.board_tie.Follows.{Follows, applied_in}
use Rattle.board_law.specs.board_tie.Sent.{Said, IsSent, AllSent}
use Rattle.board_law.specs.board_tie.Shown.{Shows, owner}

-- ---- a function changed at one place

pub here : {X : Type 0} (f : ℕ → X) (place : ℕ) (x : X) → put f place x place ≡ x
here f place x = ap (λ t. if t then x else f place) ((Decides-eqb place place).1 refl)

pub elsewhere : {X : Type 0} (f : ℕ → X) (place : ℕ) (x : X) (other : ℕ) → (other ≡ place → ⊥) → put f place x other ≡ f other
elsewhere f place x other apart = by_test (λ y. y ≡ f other) (other == place) x (f other) (λ e. absurd (apart ((Decides-eqb other place).0 e))) (λ e. refl)

-- ---- lists of what goes out

pub applied_append : (these those : List Out) → applied_in (these ++ those) ≡ applied_in these ++ applied_in those
applied_append [] those = refl
applied_append (Send packet ∷ outs) those = applied_append outs those
applied_append (Apply command ∷ outs) those = ap (λ commands. command ∷ commands) (applied_append outs those)

pub sent_append : (w : World Command) (these those : List Out) → AllSent w these → AllSent w those → AllSent w (these ++ those)
sent_append w [] those first second = second
sent_append w (out ∷ outs) those first second = (first.0, sent_append w outs those first.1 second)

-- ---- what was sent stays sent

said_later : (w v : World Command) → Grows w v → (place : ℕ) (body : BoardBody) → Said w place body → Said v place body
said_later w v g place (Prepare ballot) said = g.prepares _ said
said_later w v g place (Promised ballot last list) said = g.promises _ said
said_later w v g place (Install ballot list) said = g.installs _ said
said_later w v g place (Append ballot count command) said = (said.0, said.1, g.appends _ said.2)
said_later w v g place (Accepted ballot count) said = g.accepts _ said

out_later : (w v : World Command) → Grows w v → (out : Out) → IsSent w out → IsSent v out
out_later w v g (Send packet) sent = record { place = sent.place; from = sent.from; said = said_later w v g sent.place packet.body sent.said }
out_later w v g (Apply command) sent = tt

pub sent_later : (w v : World Command) → Grows w v → (outs : List Out) → AllSent w outs → AllSent v outs
sent_later w v g [] sent = tt
sent_later w v g (out ∷ outs) sent = (out_later w v g out sent.0, sent_later w v g outs sent.1)

-- ---- steps

pub steps_then : {w v u : World Command} → Steps w v → Steps v u → Steps w u
steps_then first Ended = first
steps_then first (More rest step) = More (steps_then first rest) step

module _ (w : World Command) (place : ℕ) where
  -- Nothing happens.
  pub stays : (s : BoardState) → Shows place (w.board place) s → Follows w place (still s)
  stays s shows = record {
    world = w;
    steps = Ended;
    shows = shows;
    others = λ other apart. refl;
    sent = tt;
    applied = sym (append-nil (w.board place).applied);
  }

  -- A step changes this board alone, and applies nothing.
  pub changes : (v : World Command) (x : protocol.Board Command) (made : Done) → Step w v → v.board ≡ put w.board place x → Shows place x made.state
      → x.applied ≡ (w.board place).applied ++ applied_in made.outs → AllSent v made.outs → Follows w place made
  changes v x made step board shows applied sent =
      let now : v.board place ≡ x = ap (λ (f : ℕ → protocol.Board Command). f place) board ∙ here w.board place x in
      record {
        world = v;
        steps = More Ended step;
        shows = subst (λ y. Shows place y made.state) (sym now) shows;
        others = λ other apart. ap (λ (f : ℕ → protocol.Board Command). f other) board ∙ elsewhere w.board place x other apart;
        sent = sent;
        applied = ap (λ (y : protocol.Board Command). y.applied) now ∙ applied;
      }

  -- A step changes no board.
  pub says : (v : World Command) (made : Done) → Step w v → v.board ≡ w.board → Shows place (w.board place) made.state → applied_in made.outs ≡ [] → AllSent v made.outs → Follows w place made
  says v made step board shows quiet sent =
      let now : v.board place ≡ w.board place = ap (λ (f : ℕ → protocol.Board Command). f place) board in
      record {
        world = v;
        steps = More Ended step;
        shows = subst (λ y. Shows place y made.state) (sym now) shows;
        others = λ other apart. ap (λ (f : ℕ → protocol.Board Command). f other) board;
        sent = sent;
        applied = ap (λ (y : protocol.Board Command). y.applied) now ∙ sym (ap (λ commands. (w.board place).applied ++ commands) quiet ∙ append-nil (w.board place).applied);
      }

  -- One after another.
  pub goes_on : Steps (start owner) w → (a b : Done) → (f : Follows w place a) → Follows f.world place b → Follows w place (saying a.outs b)
  goes_on reached a b f g =
      let grown = grows owner f.world g.world (steps_then reached f.steps) g.steps in
      record {
        world = g.world;
        steps = steps_then f.steps g.steps;
        shows = g.shows;
        others = λ other apart. g.others other apart ∙ f.others other apart;
        sent = sent_append g.world a.outs b.outs (sent_later f.world g.world grown a.outs f.sent) g.sent;
        applied = g.applied ∙ ap (λ commands. commands ++ applied_in b.outs) f.applied
            ∙ append_assoc (w.board place).applied (applied_in a.outs) (applied_in b.outs)
            ∙ sym (ap (λ commands. (w.board place).applied ++ commands) (applied_append a.outs b.outs));
      }

-- ---- a packet to the others

module _ (v : World Command) (place : ℕ) (s : BoardState) (body : BoardBody) where
  pub one_sent : (to : ℕ) → s.number ≡ suc place → Said v place body → AllSent v (send s to body ∷ [])
  one_sent to number said = (record { place = place; from = number; said = said }, tt)

  other_sent : (to : ℕ) → s.number ≡ suc place → Said v place body → AllSent v (send_other s body to)
  other_sent to number said = by_test (AllSent v) (to == s.number) [] (send s to body ∷ []) (λ e. tt) (λ e. one_sent to number said)

  pub others_sent : s.number ≡ suc place → Said v place body → AllSent v (send_others s body)
  others_sent number said =
      sent_append v (send_other s body 1) _ (other_sent 1 number said)
      (sent_append v (send_other s body 2) _ (other_sent 2 number said) (sent_append v (send_other s body 3) [] (other_sent 3 number said) tt))

module _ (s : BoardState) (body : BoardBody) where
  other_quiet : (to : ℕ) → applied_in (send_other s body to) ≡ []
  other_quiet to = by_test (λ outs. applied_in outs ≡ []) (to == s.number) [] (send s to body ∷ []) (λ e. refl) (λ e. refl)

  -- Nothing is applied by it.
  pub others_quiet : applied_in (send_others s body) ≡ []
  others_quiet =
      applied_append (send_other s body 1) _
      ∙ ap (λ commands. commands ++ applied_in (send_other s body 2 ++ (send_other s body 3 ++ []))) (other_quiet 1)
      ∙ applied_append (send_other s body 2) _
      ∙ ap (λ commands. commands ++ applied_in (send_other s body 3 ++ [])) (other_quiet 2)
      ∙ applied_append (send_other s body 3) []
      ∙ ap (λ commands. commands ++ []) (other_quiet 3)

-- Where nothing is applied, what was applied stays.
pub quiet : (commands : List Command) (outs : List Out) → applied_in outs ≡ [] → commands ≡ commands ++ applied_in outs
quiet commands outs none = sym (ap (λ more. commands ++ more) none ∙ append-nil commands)
