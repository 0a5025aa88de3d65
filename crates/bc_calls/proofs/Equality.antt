-- `==` on events decides `≡`.
use Rattle.std.proofs.Common.{◌≡◌, refl}
use Rattle.std.specs.Bool.{Decides}
use Rattle.std.proofs.lemmas.Bool.Decides.{Decides-and, Decides-like}
use Rattle.bc_names.proofs.Equality.{name}
use Rattle.bc_syntax.proofs.Equality.{apart, body}
use Rattle.bc_prov.proofs.Equality.{outcome, declared, listing}
use Rattle.bc_calls.specs.declared.call.PutReply.{PutReply}
use Rattle.bc_calls.specs.declared.call.PutReply.TheVariants as put_replies
use Rattle.bc_calls.specs.declared.call.RemoveReply.{RemoveReply}
use Rattle.bc_calls.specs.declared.call.RemoveReply.TheVariants as remove_replies
use Rattle.bc_calls.specs.declared.call.Event.{Event}
use Rattle.bc_calls.specs.declared.call.Event.TheVariants as events
use Rattle.bc_calls.specs.contracts.call.PutReplyPartialEq.TheImpl as put_reply_impl
use Rattle.bc_calls.specs.contracts.call.RemoveReplyPartialEq.TheImpl as remove_reply_impl
use Rattle.bc_calls.specs.contracts.call.EventPartialEq.TheImpl as event_impl

pub put_reply : (a b : PutReply) → Decides ((put_reply_impl.ghosts).eq a b) (a ≡ b)
put_reply put_replies.Added put_replies.Added = (λ _. refl, λ _. refl)
put_reply put_replies.Added put_replies.Replaced = apart (λ e. absurd (cc))
put_reply put_replies.Added put_replies.Full = apart (λ e. absurd (cc))
put_reply put_replies.Added put_replies.WrongKind = apart (λ e. absurd (cc))
put_reply put_replies.Replaced put_replies.Added = apart (λ e. absurd (cc))
put_reply put_replies.Replaced put_replies.Replaced = (λ _. refl, λ _. refl)
put_reply put_replies.Replaced put_replies.Full = apart (λ e. absurd (cc))
put_reply put_replies.Replaced put_replies.WrongKind = apart (λ e. absurd (cc))
put_reply put_replies.Full put_replies.Added = apart (λ e. absurd (cc))
put_reply put_replies.Full put_replies.Replaced = apart (λ e. absurd (cc))
put_reply put_replies.Full put_replies.Full = (λ _. refl, λ _. refl)
put_reply put_replies.Full put_replies.WrongKind = apart (λ e. absurd (cc))
put_reply put_replies.WrongKind put_replies.Added = apart (λ e. absurd (cc))
put_reply put_replies.WrongKind put_replies.Replaced = apart (λ e. absurd (cc))
put_reply put_replies.WrongKind put_replies.Full = apart (λ e. absurd (cc))
put_reply put_replies.WrongKind put_replies.WrongKind = (λ _. refl, λ _. refl)

pub remove_reply : (a b : RemoveReply) → Decides ((remove_reply_impl.ghosts).eq a b) (a ≡ b)
remove_reply remove_replies.Removed remove_replies.Removed = (λ _. refl, λ _. refl)
remove_reply remove_replies.Removed remove_replies.Absent = apart (λ e. absurd (cc))
remove_reply remove_replies.Absent remove_replies.Removed = apart (λ e. absurd (cc))
remove_reply remove_replies.Absent remove_replies.Absent = (λ _. refl, λ _. refl)

pub event : (a b : Event) → Decides ((event_impl.ghosts).eq a b) (a ≡ b)
event (events.Types x) (events.Types y) = Decides-like _ (λ p i. events.Types (p i)) (λ e. cc) (declared x y)
event (events.Types x) (events.Put y0 y1 y2) = apart (λ e. absurd (cc))
event (events.Types x) (events.Remove y0 y1) = apart (λ e. absurd (cc))
event (events.Types x) (events.Ask y0 y1) = apart (λ e. absurd (cc))
event (events.Types x) (events.All y) = apart (λ e. absurd (cc))
event (events.Put x0 x1 x2) (events.Types y) = apart (λ e. absurd (cc))
event (events.Put x0 x1 x2) (events.Put y0 y1 y2) = Decides-like _ (λ p i. events.Put (p.0 i) (p.1.0 i) (p.1.1 i)) (λ e. (cc, (cc, cc))) (Decides-and _ _ (name x0 y0) (Decides-and _ _ (body x1 y1) (put_reply x2 y2)))
event (events.Put x0 x1 x2) (events.Remove y0 y1) = apart (λ e. absurd (cc))
event (events.Put x0 x1 x2) (events.Ask y0 y1) = apart (λ e. absurd (cc))
event (events.Put x0 x1 x2) (events.All y) = apart (λ e. absurd (cc))
event (events.Remove x0 x1) (events.Types y) = apart (λ e. absurd (cc))
event (events.Remove x0 x1) (events.Put y0 y1 y2) = apart (λ e. absurd (cc))
event (events.Remove x0 x1) (events.Remove y0 y1) = Decides-like _ (λ p i. events.Remove (p.0 i) (p.1 i)) (λ e. (cc, cc)) (Decides-and _ _ (name x0 y0) (remove_reply x1 y1))
event (events.Remove x0 x1) (events.Ask y0 y1) = apart (λ e. absurd (cc))
event (events.Remove x0 x1) (events.All y) = apart (λ e. absurd (cc))
event (events.Ask x0 x1) (events.Types y) = apart (λ e. absurd (cc))
event (events.Ask x0 x1) (events.Put y0 y1 y2) = apart (λ e. absurd (cc))
event (events.Ask x0 x1) (events.Remove y0 y1) = apart (λ e. absurd (cc))
event (events.Ask x0 x1) (events.Ask y0 y1) = Decides-like _ (λ p i. events.Ask (p.0 i) (p.1 i)) (λ e. (cc, cc)) (Decides-and _ _ (name x0 y0) (outcome x1 y1))
event (events.Ask x0 x1) (events.All y) = apart (λ e. absurd (cc))
event (events.All x) (events.Types y) = apart (λ e. absurd (cc))
event (events.All x) (events.Put y0 y1 y2) = apart (λ e. absurd (cc))
event (events.All x) (events.Remove y0 y1) = apart (λ e. absurd (cc))
event (events.All x) (events.Ask y0 y1) = apart (λ e. absurd (cc))
event (events.All x) (events.All y) = Decides-like _ (λ p i. events.All (p i)) (λ e. cc) (listing x y)
