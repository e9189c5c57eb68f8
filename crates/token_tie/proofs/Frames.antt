-- Steps of one client, one after another, and what they leave alone.
use Rattle.std.proofs.Common.{◌≡◌, ℕ, Bool, true, false, List, [], ◌∷◌, ◌++◌, refl, sym, ap, subst, ◌∙◌, arith}
use Rattle.std.proofs.lemmas.Bool.Decides.{nat_tests}
use Rattle.token_client.specs.declared.output.Out.{Out}
use Rattle.token_client.specs.declared.output.Out.TheVariants.{Want, Gave, Supply, Flush, Read, Ready}
use Rattle.token_protocol.specs.Acts.{Act}
use Rattle.token_protocol.specs.Basics.{put, In}
use Rattle.token_protocol.specs.Client.{Client}
use Rattle.token_protocol.specs.Packets as packets
use Rattle.token_protocol.specs.Premises.{Premise, SettledEnd}
use Rattle.token_protocol.specs.Step.{Step, Steps}
use Rattle.token_protocol.specs.Step.Steps.{Done, More}
use Rattle.token_protocol.specs.Told.{tells, told}
use Rattle.token_protocol.specs.World.{World}
use Rattle.token_protocol.proofs.Told.{steps_through, told_through}
use Rattle.token_tie.specs.Seen.{Setting, Local, Shows}
use Rattle.token_tie.specs.Taken.{rest, ByClient, AllSaid, Acts}
use Rattle.token_tie.proofs.Taken.{Goes}

pub put_here : {X : Type 0} (f : ℕ → X) (c : ℕ) (x : X) → put f c x c ≡ x
put_here f c x = grind (arith, nat_tests)

pub put_there : {X : Type 0} (f : ℕ → X) (c : ℕ) (x : X) (d : ℕ) → (d ≡ c → ⊥) → put f c x d ≡ f d
put_there f c x d other = grind (arith, nat_tests)

-- steps that tell nothing, and then others that tell nothing
pub both_quiet : (logs : Bool) (w v u : World) (s : Steps logs w v) (t : Steps logs v u) → told w v s ≡ [] → told v u t ≡ []
    → told w u (steps_through w v u s t) ≡ []
both_quiet logs w v u s t p q = told_through logs w v u s t ∙ (λ i. p i ++ q i)

pub by_nothing : (c : ℕ) (w : World) → ByClient c w w
by_nothing c w = record { others = refl; client = λ d other. refl; wants = λ p fact. fact; gaves = λ x fact. fact }

pub by_through : (c : ℕ) (w v u : World) → ByClient c w v → ByClient c v u → ByClient c w u
by_through c w v u p q = record {
  others = q.others ∙ p.others;
  client = λ d other. q.client d other ∙ p.client d other;
  wants = λ x fact. q.wants x (p.wants x fact);
  gaves = λ x fact. q.gaves x (p.gaves x fact);
}

module _ (logs : Bool) (g : Setting) (end : ℕ) where
  -- what was sent stays sent
  pub said_on : (w v : World) (outs : List Out) → ByClient g.client w v → AllSaid g end w outs → AllSaid g end v outs
  said_on w v [] by h = tt
  said_on w v (Want block req again mode ∷ os) by h = (λ fact. by.wants _ (h.0 fact), said_on w v os by h.1)
  said_on w v (Gave block stamp ∷ os) by h =
      (λ fact. (let e = ap (λ (u : World). u.epoch) by.others in let low = (h.0 fact).0 in omega arith, by.gaves _ (h.0 fact).1), said_on w v os by h.1)
  said_on w v (Supply block ver value ∷ os) by h = (tt, said_on w v os by h.1)
  said_on w v (Flush block ∷ os) by h = (tt, said_on w v os by h.1)
  said_on w v (Read block place ∷ os) by h = (tt, said_on w v os by h.1)
  said_on w v (Ready block ∷ os) by h = (tt, said_on w v os by h.1)

  pub said_both : (w : World) (outs more : List Out) → AllSaid g end w outs → AllSaid g end w more → AllSaid g end w (outs ++ more)
  said_both w [] more h k = k
  said_both w (o ∷ os) more h k = (h.0, said_both w os more h.1 k)

  -- nothing happens
  pub goes_nowhere : (w : World) (l : Local) → Shows g w.epoch l (w.client g.client) → Goes logs g end w l []
  goes_nowhere w l shows = record { world = w; steps = Done; tells = refl; frame = by_nothing g.client w; shows = shows; said = tt }

  -- nothing happens, and something is given that is no packet of the protocol
  pub goes_saying : (w : World) (l : Local) (outs : List Out) → Shows g w.epoch l (w.client g.client) → AllSaid g end w outs → Goes logs g end w l outs
  goes_saying w l outs shows said = record { world = w; steps = Done; tells = refl; frame = by_nothing g.client w; shows = shows; said = said }

  -- the epoch that reigns stays
  pub epoch_on : (w v : World) → ByClient g.client w v → v.epoch ≡ w.epoch
  epoch_on w v by = ap (λ (u : World). u.epoch) by.others

  -- one step of the client, which tells these acts and becomes x
  pub acts_by : (w v : World) (acts : List Act) (l : Local) (outs : List Out) (x : Client) (step : Step logs w v) → tells w v step ≡ acts
      → v.client ≡ put w.client g.client x → rest v ≡ rest w
      → ((p : packets.Want) → In p w.wants → In p v.wants) → ((y : packets.Gave) → In y w.gaves → In y v.gaves) → Shows g w.epoch l x → AllSaid g end v outs
      → Acts logs g end w acts l outs
  acts_by w v acts l outs x step told_ fact others wants gaves shows said = record {
    world = v;
    steps = More Done step;
    tells = told_;
    frame = record { others = others; client = λ d other. ap (λ f. f d) fact ∙ put_there w.client g.client x d other; wants = wants; gaves = gaves };
    shows = subst (Shows g w.epoch l) (sym (ap (λ f. f g.client) fact ∙ put_here w.client g.client x)) shows;
    said = said;
  }

  -- some steps, and then others
  pub goes_through : (w : World) (l m : Local) (outs more : List Out) (t : Goes logs g end w l outs) → Goes logs g end t.world m more
      → Goes logs g end w m (outs ++ more)
  goes_through w l m outs more t u = record {
    world = u.world;
    steps = steps_through w t.world u.world t.steps u.steps;
    tells = both_quiet logs w t.world u.world t.steps u.steps t.tells u.tells;
    frame = by_through g.client w t.world u.world t.frame u.frame;
    shows = subst (λ e. Shows g e m (u.world.client g.client)) (epoch_on w t.world t.frame) u.shows;
    said = said_both u.world outs more (said_on t.world u.world outs u.frame t.said) u.said;
  }

  -- what is shown after some steps, in the epoch that reigns there
  pub shown_on : (w : World) (acts : List Act) (l : Local) (outs : List Out) (t : Acts logs g end w acts l outs)
      → Shows g t.world.epoch l (t.world.client g.client)
  shown_on w acts l outs t = subst (λ e. Shows g e l (t.world.client g.client)) (sym (epoch_on w t.world t.frame)) t.shows

-- a settled end stays the settled end where the ends do
pub end_on : (logs : Bool) (w v : World) (c end : ℕ) → ByClient c w v → Premise logs (SettledEnd w c end) → Premise logs (SettledEnd v c end)
end_on true w v c end by h = record { last_filed = h.last_filed ∙ sym (ap (λ (u : World). u.end c) by.others) }
end_on false w v c end by h = tt
