-- What is seen stays seen while the small world goes on, and each run of it goes on so.
use Rattle.std.proofs.Common.{◌≡◌, ℕ, refl, sym, subst, ◌∙◌, arith}
use Rattle.xfs_base.specs.declared.node.NodeId.{NodeId}
use Rattle.xfs_base.specs.declared.node.NodeId.TheVariants.{Client, Manager, Server, Cleaner, Registry}
use Rattle.wire_msg.specs.declared.body.Body.{Body}
use Rattle.wire_msg.specs.declared.body.Body.TheVariants as body
use Rattle.log_tie.specs.Setting.{Setting}
use Rattle.log_law.specs.Net.{Net}
use Rattle.wire_msg.specs.declared.registry.Welcome.{Welcome}
use Rattle.node_logs.specs.node_log_tie.Sight.Question.{Unasked, OfMaps, OfOpening}
use Rattle.node_logs.specs.node_log_tie.Sight.{Asker, Question, AskedBy, AnsweredBy, ReachedBy, BodySeen}
use Rattle.node_logs.proofs.node_log_tie.Sight.{Later}

pub at_once : (n : Net) → Later n n
at_once n = record { low = omega arith; sent = λ p fact. fact; reached = λ v. omega arith }

pub then_later : (n m o : Net) → Later n m → Later m o → Later n o
then_later n m o a b = record {
  low = (let x = a.low in let y = b.low in omega arith);
  sent = λ p fact. b.sent p (a.sent p fact);
  reached = λ v. (let x = a.reached v in let y = b.reached v in omega arith);
}

-- whoever asks, where it asked the same before
module _ (g : Setting) (owner asker : Asker) (n next : Net) (later : Later n next) where
  pub asked_on : (inc : ℕ) (q r : Question) → ((q ≡ Unasked → ⊥) → r ≡ q) → AskedBy g owner n inc q → AskedBy g asker next inc r
  asked_on inc Unasked r alike h = absurd h
  asked_on inc OfMaps r alike h = subst (AskedBy g asker next inc) (sym (alike (λ e. absurd cc))) tt
  asked_on inc (OfOpening own) r alike h = subst (AskedBy g asker next inc) (sym (alike (λ e. absurd cc))) (later.sent _ h)

  pub answered_on : (m : Welcome) (q r : Question) → ((q ≡ Unasked → ⊥) → r ≡ q) → AnsweredBy g owner n m q → AnsweredBy g asker next m r
  answered_on m Unasked r alike h = absurd h
  answered_on m OfMaps r alike h = subst (AnsweredBy g asker next m) (sym (alike (λ e. absurd cc))) tt
  answered_on m (OfOpening own) r alike h = subst (AnsweredBy g asker next m) (sym (alike (λ e. absurd cc))) (later.sent _ h)

  pub reached_on : (from : NodeId) (generation : ℕ) → ReachedBy g owner n from generation → ReachedBy g asker next from generation
  reached_on (Server v) generation h = (let x = later.reached v in omega arith)
  reached_on _ generation h = tt

-- what is seen stays seen, while its owner asks more
module _ (g : Setting) (owner asker : Asker) (same : asker.node ≡ owner.node) (keeps : (k : ℕ) → (owner.asked k ≡ Unasked → ⊥) → asker.asked k ≡ owner.asked k)
    (n next : Net) (later : Later n next) where
  pub seen_on : (from to : NodeId) (said : Body) → BodySeen g owner n from to said → BodySeen g asker next from to said
  seen_on from (Server v) (body.Store m) h = λ own. later.sent _ (h own)
  seen_on from (Client c) (body.Store m) h = tt
  seen_on from (Manager k) (body.Store m) h = tt
  seen_on from Cleaner (body.Store m) h = tt
  seen_on from Registry (body.Store m) h = tt
  seen_on from (Server v) (body.Fence m) h = λ own. ((h own).0, later.sent _ (h own).1)
  seen_on from (Client c) (body.Fence m) h = tt
  seen_on from (Manager k) (body.Fence m) h = tt
  seen_on from Cleaner (body.Fence m) h = tt
  seen_on from Registry (body.Fence m) h = tt
  seen_on (Server v) to (body.Fenced m) h = λ own. later.sent _ (h own)
  seen_on (Client c) to (body.Fenced m) h = tt
  seen_on (Manager k) to (body.Fenced m) h = tt
  seen_on Cleaner to (body.Fenced m) h = tt
  seen_on Registry to (body.Fenced m) h = tt
  seen_on from to (body.Stored m) h = λ own. later.sent _ (h own)
  seen_on from to (body.Fragment m) h = λ own. later.sent _ (h own)
  seen_on from to (body.Listed m) h = later.sent _ h
  seen_on from to (body.Delete m) h = λ own. later.sent _ (h own)
  seen_on from to (body.Hello m) h = record {
    own = λ fact. asked_on g owner asker n next later m.inc (owner.asked m.ask) (asker.asked m.ask) (keeps m.ask) (h.own (fact ∙ same));
    reached = reached_on g owner asker n next later from m.inc h.reached;
  }
  seen_on from to (body.Welcome m) h = record {
    own = λ fact. answered_on g owner asker n next later m (owner.asked m.ask) (asker.asked m.ask) (keeps m.ask) (h.own (fact ∙ same));
    map = later.sent _ h.map;
    low = (let x = h.low in let y = later.low in omega arith);
  }
  seen_on from to (body.MapNews m) h = later.sent _ h
  seen_on from to _ h = tt

-- or nothing
module _ (g : Setting) (owner : Asker) (n next : Net) (later : Later n next) where
  pub asked_later : (inc : ℕ) (q : Question) → AskedBy g owner n inc q → AskedBy g owner next inc q
  asked_later inc q h = asked_on g owner owner n next later inc q q (λ some. refl) h

  pub seen_later : (from to : NodeId) (said : Body) → BodySeen g owner n from to said → BodySeen g owner next from to said
  seen_later from to said h = seen_on g owner owner refl (λ k some. refl) n next later from to said h
