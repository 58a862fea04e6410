-- What contracts say of the queue's types: the state of a `Core`, the channel, the seats.
pub mod Account
pub mod Cores
pub mod Running
