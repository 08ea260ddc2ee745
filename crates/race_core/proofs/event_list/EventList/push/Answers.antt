use Rattle.std.proofs.Common.{◌≡◌, [], ◌∷◌, ◌++◌, List, ap, sym, ◌∙◌, append_assoc}
use Rattle.race_core.specs.declared.event.LaneEvent.{LaneEvent}
use Rattle.race_core.specs.Sharing.{with_event}
use Rattle.race_core.proofs.AddedEvents.{with_event_last}
use Rattle.race_core.proofs.event_list.EventList.push.Goals as goal

pub returns-in-One-clause-events : goal.returns-in-One-clause-events
returns-in-One-clause-events g c =
    let front = c.pop.new.self.items in
    let whole : front ++ c.in-Some.last ∷ [] ≡ c.args.self.now.events = sym c.in-Some.ensures.items ∙ ap (λ l. l.events) c.self.view_is in
    c.push_within-in-One.ensures.items
    ∙ (ap (λ (l : List (LaneEvent g.row.T.Denot)). front ++ l) c.in-One.ensures
    ∙ (sym (with_event_last front c.in-Some.last c.args.event) ∙ ap (λ (l : List (LaneEvent g.row.T.Denot)). with_event c.args.event l) whole))

pub returns-in-Two-clause-events : goal.returns-in-Two-clause-events
returns-in-Two-clause-events g c =
    let front = c.pop.new.self.items in
    let whole : front ++ c.in-Some.last ∷ [] ≡ c.args.self.now.events = sym c.in-Some.ensures.items ∙ ap (λ l. l.events) c.self.view_is in
    c.push_within-in-Two-2.ensures.items
    ∙ (ap (λ (l : List (LaneEvent g.row.T.Denot)). l ++ c.in-Two.event ∷ []) c.push_within-in-Two.ensures.items
    ∙ (append_assoc front (c.in-Two.last ∷ []) (c.in-Two.event ∷ [])
    ∙ (ap (λ (l : List (LaneEvent g.row.T.Denot)). front ++ l) c.in-Two.ensures
    ∙ (sym (with_event_last front c.in-Some.last c.args.event) ∙ ap (λ (l : List (LaneEvent g.row.T.Denot)). with_event c.args.event l) whole))))
