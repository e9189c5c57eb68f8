-- The numbers by which a client asks servers for fragments: by its moves it draws none, and asks for no fragment.
use Rattle.std.proofs.Common.{◌≡◌, ⊎_elim, ℕ, ◌≤◌, List, ◌++◌, Option, Some, None, inl, inr, sym, ap, subst, arith}
use Rattle.std.proofs.lemmas.Bool.Decides.{nat_tests}
use Rattle.std.specs.List.{AllByRecursion}
use Rattle.std.specs.Prelude.{cond, nat_lt, ◌+◌}
use Rattle.xfs_base.specs.Limits.{u32_end}
use Rattle.client_call.specs.Reads.{reading_in}
use Rattle.client_moves.specs.Moves.{Moves}
use Rattle.client_serving.specs.declared.serving.Serving.{Serving}
use Rattle.delta_feed.specs.declared.output.Out.{Out as Range_out}
use Rattle.delta_feed.specs.declared.output.Out.TheVariants.{Range}
use Rattle.delta_feed.specs.FeedState.{FeedState}
use Rattle.delta_feed.specs.Transition.{feed_tick}
use Rattle.log_owner.specs.declared.promised.Managers.{Managers}
use Rattle.log_owner.specs.Sending.{push_all, range}
use Rattle.node_base.specs.Beginning.{answers_unanswered}
use Rattle.node_base.specs.declared.effects.Effect.{Effect}
use Rattle.node_base.specs.declared.effects.Effect.TheVariants.{Send, Answer, Lose, Does}
use Rattle.node_base.specs.declared.questions.Questions.{Questions}
use Rattle.node_logs.proofs.node_log_tie.Lists.{answers_send}
use Rattle.segment_reading.specs.Reading.{ReadingState}
use Rattle.version_model.specs.declared.answer.Answer.{Answer as Answered}
use Rattle.wire_msg.specs.declared.body.Body.{Body}
use Rattle.wire_msg.specs.declared.body.Body.TheVariants as body
use Rattle.xfs_base.proofs.Alls.{all_append, all_map, all_weaker}
use Rattle.run_losses.proofs.fetching_law.Following.{Follows, IsQuiet, Lasting, Less, NoFetch, Over, moves_follow}

-- ---- numbers

abbrev pub BodyUpTo : ℕ → Body → Type 0
BodyUpTo highest (body.Fetch m) = m.ask ≤ highest
BodyUpTo highest _ = Unit {0}

-- a fetch is asked by a number no later than this
abbrev pub UpTo : ℕ → Effect → Type 0
UpTo highest (Send to said) = BodyUpTo highest said
UpTo highest (Answer item a) = Unit {0}
UpTo highest (Lose seg) = Unit {0}
UpTo highest (Does act) = Unit {0}

abbrev pub AllUpTo : ℕ → List Effect → Type 0
AllUpTo highest outs = AllByRecursion (UpTo highest) outs

body_more : (a b : ℕ) → a ≤ b → (said : Body) → BodyUpTo a said → BodyUpTo b said
body_more a b less (body.Fetch m) h = omega arith
body_more a b less _ h = tt

one_more : (a b : ℕ) → a ≤ b → (e : Effect) → UpTo a e → UpTo b e
one_more a b less (Send to said) h = body_more a b less said h
one_more a b less (Answer item x) h = tt
one_more a b less (Lose seg) h = tt
one_more a b less (Does act) h = tt

pub all_more : (a b : ℕ) → a ≤ b → (outs : List Effect) → AllUpTo a outs → AllUpTo b outs
all_more a b less outs all = all_weaker (UpTo a) (UpTo b) (one_more a b less) outs all

pub last_up : (k : ℕ) → k ≤ cond (nat_lt k u32_end) (k + 1) k
last_up k = grind (arith, nat_tests)

-- ---- a client that serves

abbrev pub last_in : Serving → ℕ
last_in s = s.lasting.questions.last

abbrev pub ReadsUpTo : ℕ → Option ReadingState → Type 0
ReadsUpTo last None = Unit {0}
ReadsUpTo last (Some r) = r.ask ≤ last

-- its reading is asked by a number that was drawn
abbrev pub At : Serving → Type 0
At s = ReadsUpTo s.lasting.questions.last (reading_in s.call)

-- from so many questions on, it and what it sends are so
pub record Goes (last : ℕ) (s : Serving) (outs : List Effect) : Type 0 where
  pub up : last ≤ last_in s
  pub reads : At s
  pub does : AllUpTo (last_in s) outs

-- ---- what bears no fetch

quiet_up : (highest : ℕ) (e : Effect) → IsQuiet e → UpTo highest e
quiet_up highest (Send to said) quiet = by said quiet
  where
    by : (b : Body) → NoFetch b → BodyUpTo highest b
    by (body.Fetch m) none = absurd none
    by _ none = tt
quiet_up highest (Answer item a) quiet = tt
quiet_up highest (Lose seg) quiet = tt
quiet_up highest (Does act) quiet = tt

pub all_pushed_none : (managers : Managers) (feed : FeedState) (highest : ℕ) → AllUpTo highest (push_all managers feed)
all_pushed_none managers feed highest = all_map (UpTo highest) (range managers) one (feed_tick feed)
  where
    one : (x : Range_out) → UpTo highest (range managers x)
    one (Range slot first upto rows) = tt

pub answered_none : (item : Option ℕ) (a : Answered) (highest : ℕ) → AllUpTo highest (answers_unanswered item a)
answered_none item a highest = answers_send (UpTo highest) (λ number said. tt) item a

-- ---- moves

-- what is read is what was, or nothing
pub less_up : (last : ℕ) (before now : Option ReadingState) → Less before now → ReadsUpTo last before → ReadsUpTo last now
less_up last before now (inl same) h = subst (ReadsUpTo last) (sym same) h
less_up last before now (inr none) h = subst (ReadsUpTo last) (sym none) tt

pub moves_go : (last : ℕ) (s t : Serving) (outs more : List Effect) → Goes last s outs → Moves s t more → Goes last t (outs ++ more)
moves_go last s t outs more g moves =
    let f : Follows s t more = moves_follow s t more moves in
    let same : last_in s ≡ last_in t = sym (ap (λ (q : Questions). q.last) f.questions) in
    record {
      up = (let a = g.up in omega arith);
      reads = subst (λ n. ReadsUpTo n (reading_in t.call)) same
          (less_up (last_in s) (reading_in s.call) (reading_in t.call)
          (⊎_elim (λ (x : Lasting s t). x.reading) (λ (x : Over s t). inr (ap reading_in x.over)) f.call) g.reads);
      does = all_append (UpTo (last_in t)) outs more (subst (λ n. AllUpTo n outs) same g.does)
          (all_weaker IsQuiet (UpTo (last_in t)) (quiet_up (last_in t)) more f.quiet);
    }
