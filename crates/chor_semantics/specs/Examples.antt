-- Small choreographies whose runs are known event by event.
pub mod Source
pub mod Names
pub mod EventBeforeDecision
pub mod DelegationWhileWaiting
pub mod EndlessExchange
pub mod ServiceTwice
