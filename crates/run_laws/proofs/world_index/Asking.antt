-- The questions of an event beside those that were asked before; what is awaited stays so where fewer questions are known, and where more are drawn.
use Rattle.std.proofs.Common.{◌≡◌, ◌⊎◌, ℕ, ◌≤◌, ◌<◌, List, [], ◌∷◌, Option, None, Some, arith}
use Rattle.cleaner_node.specs.declared.cleaner.Phase.{Phase as CleanerPhase}
use Rattle.cleaner_node.specs.declared.cleaner.Phase.TheVariants.{Down, Opening, Serving}
use Rattle.cleaner_job.specs.declared.hand.Hand.{Hand}
use Rattle.cleaner_job.specs.declared.job.Job.{Job}
use Rattle.node_base.specs.declared.effects.Effect.{Effect}
use Rattle.node_base.specs.declared.effects.Effect.TheVariants.{Send, Answer, Lose, Does}
use Rattle.node_base.specs.declared.questions.Questions.{Questions}
use Rattle.stripe_cleaner.specs.declared.phase.Phase.{Phase}
use Rattle.wire_msg.specs.declared.body.Body.{Body}
use Rattle.wire_msg.specs.declared.body.Body.TheVariants as body
use Rattle.run_laws.specs.world_index.Asking.{AsksSo, Book, CleanerAsks, HandAsks, HandIn, IsDrawn, JobAsks}
use Rattle.xfs_base.specs.Limits.{u32_end}
use Rattle.xfs_base.specs.declared.segment.SegName.{SegName}

-- ---- what is asked in an event

abbrev pub BodyAsks : Body → Book
BodyAsks (body.Check m) ask name = (m.ask ≡ ask) × (m.place.seg.name ≡ name)
BodyAsks _ ask name = ⊥

abbrev pub EffectAsks : Effect → Book
EffectAsks (Send to m) ask name = BodyAsks m ask name
EffectAsks (Answer item answer) ask name = ⊥
EffectAsks (Lose seg) ask name = ⊥
EffectAsks (Does act) ask name = ⊥

-- a Check is among what is done, under this number, of this segment
abbrev pub AsksIn : List Effect → Book
AsksIn [] ask name = ⊥
AsksIn (e ∷ es) ask name = EffectAsks e ask name ⊎ AsksIn es ask name

-- a book, with what is asked beside it
abbrev pub book_with : Book → List Effect → Book
book_with book outs ask name = book ask name ⊎ AsksIn outs ask name

-- ---- of fewer questions no less is known

module _ (book fewer : Book) (sub : (ask : ℕ) (name : SegName) → fewer ask name → book ask name) where
  pub drawn_fewer : (q : Questions) → IsDrawn book q → IsDrawn fewer q
  drawn_fewer q h room ask name fact = h room ask name (sub ask name fact)

  pub hand_fewer : (q : Questions) (hand : Hand) → HandAsks book q hand → HandAsks fewer q hand
  hand_fewer q hand h = record { drawn = h.drawn; named = λ room block ask name awaited fact. h.named room block ask name awaited (sub ask name fact) }

  pub in_fewer : (q : Questions) (phase : Phase) (o : Option Hand) → HandIn book q phase o → HandIn fewer q phase o
  in_fewer q phase None h = tt
  in_fewer q phase (Some hand) h = record { asks = hand_fewer q hand h.asks; job = h.job }

  pub job_fewer : (q : Questions) (o : Option Job) → JobAsks book q o → JobAsks fewer q o
  job_fewer q None h = tt
  job_fewer q (Some job) h = in_fewer q job.cleaning.phase job.hand h

  pub so_fewer : (q : Questions) (o : Option Job) → AsksSo book q o → AsksSo fewer q o
  so_fewer q o h = record { drawn = drawn_fewer q h.drawn; job = job_fewer q o h.job }

  pub cleaner_fewer : (p : CleanerPhase) → CleanerAsks book p → CleanerAsks fewer p
  cleaner_fewer (Down l) h = drawn_fewer l.questions h
  cleaner_fewer (Opening l o) h = drawn_fewer l.questions h
  cleaner_fewer (Serving e) h = so_fewer e.lasting.questions e.job h

-- ---- as more questions are drawn

module _ (book : Book) (q r : Questions) (more : q.last ≤ r.last) where
  room_was : (a b c : ℕ) → a ≤ b → b < c → a < c
  room_was a b c less room = omega arith

  low : (a b c : ℕ) → a ≤ b → b ≤ c → a ≤ c
  low a b c h g = omega arith

  pub drawn_more : IsDrawn book q → IsDrawn book r
  drawn_more h room ask name fact = low ask q.last r.last (h (room_was q.last r.last u32_end more room) ask name fact) more

  pub hand_more : (hand : Hand) → HandAsks book q hand → HandAsks book r hand
  hand_more hand h = record {
    drawn = λ room block ask awaited. low ask q.last r.last (h.drawn (room_was q.last r.last u32_end more room) block ask awaited) more;
    named = λ room block ask name awaited fact. h.named (room_was q.last r.last u32_end more room) block ask name awaited fact;
  }

  pub in_more : (phase : Phase) (o : Option Hand) → HandIn book q phase o → HandIn book r phase o
  in_more phase None h = tt
  in_more phase (Some hand) h = record { asks = hand_more hand h.asks; job = h.job }

  pub job_more : (o : Option Job) → JobAsks book q o → JobAsks book r o
  job_more None h = tt
  job_more (Some job) h = in_more job.cleaning.phase job.hand h
