use Rattle.std.proofs.Common.{refl}
use Rattle.event_log.proofs.refusal_texts.words_of.Goals as goal

pub returns-in-NoColumn : goal.returns-in-NoColumn
returns-in-NoColumn c = rw c.in-NoColumn.is refl

pub returns-in-TwoColumns : goal.returns-in-TwoColumns
returns-in-TwoColumns c = rw c.in-TwoColumns.is refl

pub returns-in-BadFields : goal.returns-in-BadFields
returns-in-BadFields c = rw c.in-BadFields.is refl

pub returns-in-BadTime : goal.returns-in-BadTime
returns-in-BadTime c = rw c.in-BadTime.is refl

pub returns-in-BadEvent : goal.returns-in-BadEvent
returns-in-BadEvent c = rw c.in-BadEvent.is refl

pub returns-in-BadNode : goal.returns-in-BadNode
returns-in-BadNode c = rw c.in-BadNode.is refl

pub returns-in-BadMessage : goal.returns-in-BadMessage
returns-in-BadMessage c = rw c.in-BadMessage.is refl

pub returns-in-TooManyNodes : goal.returns-in-TooManyNodes
returns-in-TooManyNodes c = rw c.in-TooManyNodes.is refl

pub returns-in-SentBefore : goal.returns-in-SentBefore
returns-in-SentBefore c = rw c.in-SentBefore.is refl

pub returns-in-NeverSent : goal.returns-in-NeverSent
returns-in-NeverSent c = rw c.in-NeverSent.is refl

pub returns-in-WrongReceiver : goal.returns-in-WrongReceiver
returns-in-WrongReceiver c = rw c.in-WrongReceiver.is refl

pub returns-in-ReceivedBefore : goal.returns-in-ReceivedBefore
returns-in-ReceivedBefore c = rw c.in-ReceivedBefore.is refl

pub returns-in-NotLater : goal.returns-in-NotLater
returns-in-NotLater c = rw c.in-NotLater.is refl

pub returns-in-SecondEvent : goal.returns-in-SecondEvent
returns-in-SecondEvent c = rw c.in-SecondEvent.is refl
