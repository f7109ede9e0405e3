-- laws of lists, of pairs of numbers, and of sorting
pub mod Lists
pub mod Pairs
pub mod Sort
-- towns, pruning and the queue of a stop
pub mod Fillings
pub mod Places
pub mod Pruning
pub mod Queue
-- each stop by itself: sound and exact
pub mod Walk
pub mod Sound
pub mod Exact
-- the run of the join
pub mod Run
pub mod Equation
pub mod Marks
pub mod Ranking
pub mod Answered
pub mod FullQueue
pub mod SameEntries
pub mod Document01
pub mod Theorems
-- for the code of the join
pub mod Cut
