pub mod BranchesByLabels
pub mod ServiceTwice
pub mod EndlessExchange
