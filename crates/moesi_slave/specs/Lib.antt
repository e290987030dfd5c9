pub mod Slave
